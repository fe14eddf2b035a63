-- The names on a path, one after the other.
use Rattle.std.proofs.Common.{◌≡◌, ℕ, ◌+◌, ◌<◌, Bool, true, false, not, ◌||◌, ◌&&◌, List, [], ◌∷◌, ◌++◌, Some, None}
use Rattle.std.proofs.Common.{length, take, drop, position, cond, refl, sym, ap, ◌∙◌, append_assoc, arith}
use Rattle.std.proofs.lemmas.List.{append-nil}
use Rattle.std.proofs.lemmas.Bool.Decides.{nat_tests}
use Rattle.std.proofs.lemmas.Slice.Eq.{bytes_eq-Decides}
use Rattle.std.specs.List.{list_all, onto_first}
use Rattle.std.specs.Str.{bytes_eq}
use Rattle.mk_bytes.specs.Bytes.{slash, dot}
use Rattle.mk_bytes.specs.Paths.{is_slash, is_name, names_on, step, walk, is_absolute, place, below, from_root, spelled, clean}
use Rattle.mk_bytes.proofs.PieceLemmas.{cond_cases, slice_split-found, slice_split-none}

-- where the first slash stands, and what is before and after it
pub names_on-slash : (path : List ℕ) (at : ℕ) → position is_slash path ≡ Some at
    → names_on path ≡ take at path ∷ names_on (drop (at + 1) path)
names_on-slash path at is = slice_split-found is_slash path at is

pub names_on-no_slash : (path : List ℕ) → position is_slash path ≡ None → names_on path ≡ path ∷ []
names_on-no_slash path is = slice_split-none is_slash path is

-- a directory with a name is not on the way to no names
pub below-no_names : (dir names : List (List ℕ)) → 0 < length dir → length names < 1
    → below dir names ≡ None
below-no_names [] names some none = absurd (omega arith)
below-no_names (d ∷ dir) [] some none = refl
below-no_names (d ∷ dir) (n ∷ names) some none = absurd (omega arith)

-- of two tests that hold, each does
pub both_hold : (a b : Bool) → (a && b) ≡ true → (a ≡ true) × (b ≡ true)
both_hold true true is = (refl, refl)
both_hold true false is = cc
both_hold false b is = cc

-- where none of three tests holds, the last value is taken
last_of : {A : Type 0} (a b c : Bool) (first second third : A)
    → not (a || b || c) ≡ true → cond (a || b) first (cond c second third) ≡ third
last_of true b c first second third is = cc
last_of false true c first second third is = cc
last_of false false true first second third is = cc
last_of false false false first second third is = refl

-- a name is a step down
step-name : (dir : List (List ℕ)) (name : List ℕ) → is_name name ≡ true
    → step dir name ≡ dir ++ name ∷ []
step-name dir name is =
    last_of (bytes_eq name []) (bytes_eq name (dot ∷ [])) (bytes_eq name (dot ∷ dot ∷ [])) _ _ _ is

-- a way of names leads down by these
walk-names : (dir names : List (List ℕ)) → list_all is_name names ≡ true
    → walk dir names ≡ dir ++ names
walk-names dir [] is = sym (append-nil dir)
walk-names dir (name ∷ names) is =
    let here = both_hold (is_name name) (list_all is_name names) is in
    rw (step-name dir name here.0, walk-names (dir ++ name ∷ []) names here.1)
    (append_assoc dir (name ∷ []) names)

-- what lies below a directory
below-more : (dir names : List (List ℕ)) → below dir (dir ++ names) ≡ Some names
below-more [] names = refl
below-more (name ∷ dir) names = rw ((bytes_eq-Decides name name).1 refl) (below-more dir names)

-- names with a slash between them
abbrev joined : List (List ℕ) → List ℕ
joined [] = []
joined (name ∷ names) = name ++ from_root names

spelled-below : (dir : List (List ℕ)) (name : List ℕ) (names : List (List ℕ))
    → spelled dir (Some (name ∷ names)) ≡ joined (name ∷ names)
spelled-below [] name names = refl
spelled-below (d ∷ dir) name names = refl

joined-first : (byte : ℕ) (names : List (List ℕ)) → joined (onto_first byte names) ≡ byte ∷ joined names
joined-first byte [] = refl
joined-first byte (name ∷ names) = refl

-- a path has a first name
first_of : (path : List ℕ) → (name : List ℕ) × (names : List (List ℕ)) × (names_on path ≡ name ∷ names)
first_of [] = ([], [], refl)
first_of (byte ∷ bytes) =
    let more = first_of bytes in
    cond_cases (is_slash byte)
    (λ is. ([], names_on bytes, rw is refl))
    (λ is. (byte ∷ more.0, more.1, rw (is, more.2) refl))

slash_is : (byte : ℕ) → is_slash byte ≡ true → byte ≡ slash
slash_is byte is = grind (arith, nat_tests)

-- the names on a path, with a slash between them, are the path
joined-names : (path : List ℕ) → joined (names_on path) ≡ path
joined-names [] = refl
joined-names (byte ∷ bytes) =
    let more = first_of bytes in
    let rest : joined (more.0 ∷ more.1) ≡ bytes = ap joined (sym more.2) ∙ joined-names bytes in
    cond_cases (is_slash byte)
    (λ is. rw (is, more.2, slash_is byte is) (ap (λ behind. slash ∷ behind) rest))
    (λ is. rw is
    (joined-first byte (names_on bytes) ∙ ap (λ behind. byte ∷ behind) (joined-names bytes)))

-- an absolute path begins with an empty name, which is none
names_are-relative : (path : List ℕ) → list_all is_name (names_on path) ≡ true
    → is_absolute path ≡ false
names_are-relative [] is = refl
names_are-relative (byte ∷ bytes) is =
    cond_cases (is_slash byte)
    (λ slashed. absurd (let none = rw slashed at is in cc))
    (λ other. other)

-- a path of names is its own clean form
pub clean-names : (cwd path : List ℕ) → list_all is_name (names_on path) ≡ true
    → clean cwd path ≡ path
clean-names cwd path is =
    let dir = walk [] (names_on cwd) in
    let first = first_of path in
    let led : place cwd path ≡ dir ++ names_on path =
    rw (names_are-relative path is) (walk-names dir (names_on path) is)
    in
    let under : below dir (place cwd path) ≡ Some (first.0 ∷ first.1) =
    rw led (below-more dir (names_on path) ∙ ap Some first.2)
    in
    rw under
    (spelled-below (place cwd path) first.0 first.1 ∙ ap joined (sym first.2) ∙ joined-names path)
