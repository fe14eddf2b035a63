-- The files of a new world.
use Rattle.std.proofs.Common.{◌≡◌, ◌∙◌, ◌⊎◌, ℕ, zero, suc, ◌+◌, ◌-◌, ◌<◌, ◌≤◌, Bool, true, false, not, ◌&&◌, ◌||◌, List, [], ◌∷◌, length, drop, get_or, Vec, Global, inl, inr, refl, sym, ap, subst, arith, drop-cons}
use Rattle.std.proofs.lemmas.Bool.{false≢true}
use Rattle.std.proofs.lemmas.List.Folds.{list_any-append}
use Rattle.std.proofs.lemmas.Slice.Eq.{bytes_eq-Decides}
use Rattle.std.specs.List.{list_any}
use Rattle.std.specs.Str.{bytes_eq}
use Rattle.indexmap.specs.IndexSet.{insert_key}
use Rattle.mk_bytes.specs.Paths.{clean}
use Rattle.mk_bytes.specs.declared.pair.Pair.{Pair}
use Rattle.mk_world.specs.Lawful.{IsLawful}
use Rattle.mk_world.specs.Talks.{Meaning}
use Rattle.mk_world.specs.declared.history.History.{History}
use Rattle.mk_memworld.specs.Base.{base_of, has_path, are_clean, Holds}

-- a history that begins so, and in which nothing has happened, is lawful
pub fresh-lawful : (meaning : Meaning) (pairs : List Pair) (history : History)
    → history ≡ record { base = base_of pairs; events = [] } → IsLawful meaning history
fresh-lawful meaning pairs history is =
    subst (IsLawful meaning) (sym is) (record { events = tt })

-- the files from a place on are the one there and those behind it
next-file : (files : List Pair) (left : ℕ) (d : Pair) → 0 < left → left ≤ length files
    → drop (left - 1) files ≡ get_or files (left - 1) d ∷ drop left files
next-file files left d some within =
    let same : suc (left - 1) ≡ left = omega arith in
    drop-cons files (left - 1) d (omega (arith, some, within))
    ∙ ap (λ k. get_or files (left - 1) d ∷ drop k files) same

-- where files from a place on are not clean, all are not
and-false : (a b : Bool) → b ≡ false → (a && b) ≡ false
and-false true b is = is
and-false false b is = refl

unclean-front : (cwd : List ℕ) (files : List Pair) (k : ℕ) → are_clean cwd (drop k files) ≡ false
    → are_clean cwd files ≡ false
unclean-front cwd files zero is = is
unclean-front cwd [] (suc k) is = is
unclean-front cwd (file ∷ files) (suc k) is =
    and-false (not (has_path files file.name)) _
    (and-false (bytes_eq (clean cwd file.name) file.name) (are_clean cwd files)
    (unclean-front cwd files k is))

equal-turned : (one other : List ℕ) → bytes_eq one other ≡ bytes_eq other one
equal-turned one other = by (bytes_eq one other) refl (bytes_eq other one) refl
  where
    by : (a : Bool) → bytes_eq one other ≡ a → (b : Bool) → bytes_eq other one ≡ b
        → bytes_eq one other ≡ bytes_eq other one
    by true first b second =
        first ∙ sym ((bytes_eq-Decides other one).1 (sym ((bytes_eq-Decides one other).0 first)))
    by false first true second =
        (bytes_eq-Decides one other).1 (sym ((bytes_eq-Decides other one).0 second)) ∙ sym second
    by false first false second = first ∙ sym second

or-turned : (a b c d : Bool) → a ≡ c → b ≡ d → (a || (b || false)) ≡ (d || c)
or-turned true true c d first second = rw (← first, ← second) refl
or-turned true false c d first second = rw (← first, ← second) refl
or-turned false true c d first second = rw (← first, ← second) refl
or-turned false false c d first second = rw (← first, ← second) refl

-- the set once it holds one path more
holds-next : (keys new : List (Vec ℕ Global)) (key : Vec ℕ Global) (file : Pair) (files : List Pair)
    → Holds keys files → key.items ≡ file.name
    → list_any (λ other. bytes_eq key.items other.items) keys ≡ false
    → new ≡ insert_key (λ one other. bytes_eq one.items other.items) keys key
    → Holds new (file ∷ files)
holds-next keys new key file files holds is fresh inserts = λ path.
    let more = list_any-append (λ (other : Vec ℕ Global). bytes_eq path other.items) keys (key ∷ []) in
    rw (inserts, fresh, more)
    (or-turned (list_any (λ other. bytes_eq path other.items) keys) (bytes_eq path key.items)
    (has_path files path) (bytes_eq file.name path) (holds path)
    (equal-turned path key.items ∙ ap (λ name. bytes_eq name path) is))

not-twice : (b is_new : Bool) → is_new ≡ not b → is_new ≡ true → b ≡ false
not-twice true is_new is new = absurd (false≢true (sym is ∙ new))
not-twice false is_new is new = refl

held-already : (b is_new : Bool) → is_new ≡ not b → is_new ≡ false → b ≡ true
held-already true is_new is old = refl
held-already false is_new is old = absurd (false≢true (sym old ∙ is))

-- a path that is clean and new
pub clean-next : (cwd : List ℕ) (files : List Pair) (left : ℕ) (d : Pair) (keys new : List (Vec ℕ Global))
    (key : Vec ℕ Global) (is_new : Bool) → 0 < left → left ≤ length files
    → Holds keys (drop left files) → key.items ≡ (get_or files (left - 1) d).name
    → is_new ≡ not (list_any (λ other. bytes_eq key.items other.items) keys) → is_new ≡ true
    → new ≡ insert_key (λ one other. bytes_eq one.items other.items) keys key
    → bytes_eq (clean cwd (get_or files (left - 1) d).name) (get_or files (left - 1) d).name ≡ true
    → are_clean cwd (drop left files) ≡ true
    → Holds new (drop (left - 1) files) × (are_clean cwd (drop (left - 1) files) ≡ true)
clean-next cwd files left d keys new key is_new some within holds is added fresh inserts clean_is rest =
    let file = get_or files (left - 1) d in
    let next = next-file files left d some within in
    let none = not-twice (list_any (λ other. bytes_eq key.items other.items) keys) is_new added fresh in
    let absent : has_path (drop left files) file.name ≡ false =
    sym (holds file.name)
    ∙ subst (λ name. list_any (λ other. bytes_eq name other.items) keys ≡ false) is none in (
      subst (Holds new) (sym next) (holds-next keys new key file (drop left files) holds is none inserts),
      subst (λ l. are_clean cwd l ≡ true) (sym next) (rw (absent, clean_is) rest),
    )

-- one that is not
pub unclean-next : (cwd : List ℕ) (files : List Pair) (left : ℕ) (d : Pair) (keys : List (Vec ℕ Global))
    (key : Vec ℕ Global) (is_new : Bool) → 0 < left → left ≤ length files
    → Holds keys (drop left files) → key.items ≡ (get_or files (left - 1) d).name
    → is_new ≡ not (list_any (λ other. bytes_eq key.items other.items) keys)
    → (is_new ≡ false)
    ⊎ (bytes_eq (clean cwd (get_or files (left - 1) d).name) (get_or files (left - 1) d).name ≡ false)
    → false ≡ are_clean cwd files
unclean-next cwd files left d keys key is_new some within holds is added (inl old) =
    let file = get_or files (left - 1) d in
    let there = held-already (list_any (λ other. bytes_eq key.items other.items) keys) is_new added old in
    let held : has_path (drop left files) file.name ≡ true =
    sym (holds file.name)
    ∙ subst (λ name. list_any (λ other. bytes_eq name other.items) keys ≡ true) is there in
    sym (unclean-front cwd files (left - 1)
    (subst (λ l. are_clean cwd l ≡ false) (sym (next-file files left d some within)) (rw held refl)))
unclean-next cwd files left d keys key is_new some within holds is added (inr unclean) =
    let file = get_or files (left - 1) d in
    sym (unclean-front cwd files (left - 1)
    (subst (λ l. are_clean cwd l ≡ false) (sym (next-file files left d some within))
    (and-false (not (has_path (drop left files) file.name)) _ (rw unclean refl))))
