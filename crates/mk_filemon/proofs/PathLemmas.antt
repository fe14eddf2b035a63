-- Paths, each once in the order of a list.
use Rattle.std.proofs.Common.{◌≡◌, ℕ, Bool, true, false, not, List, [], ◌∷◌, ◌++◌}
use Rattle.std.proofs.Common.{if◌then◌else◌, refl, ◌∙◌, ap}
use Rattle.std.proofs.lemmas.List.{append-nil}
use Rattle.std.proofs.lemmas.List.Elements.{filter-append}
use Rattle.std.specs.Cmp.Lexicographic.{bytes_decides, nat_list_eq_equiv}
use Rattle.std.specs.Str.{bytes_eq}
use Rattle.mk_filemon.specs.Outer.{without, once}
use Rattle.mk_filemon.proofs.EscapeLemmas.{cases}

-- whether a path is one of these
abbrev pub among : List (List ℕ) → List ℕ → Bool
among [] path = false
among (other ∷ paths) path = if bytes_eq path other then true else among paths path

pub same_bytes : (x y : List ℕ) → bytes_eq x y ≡ true → x ≡ y
same_bytes x y is = (bytes_decides x y).0 is

pub bytes_eq-same : (x : List ℕ) → bytes_eq x x ≡ true
bytes_eq-same x = (bytes_decides x x).1 refl

pub bytes_eq-sym : (x y : List ℕ) → bytes_eq x y ≡ bytes_eq y x
bytes_eq-sym x y = nat_list_eq_equiv.symm x y

among-without : (path other : List ℕ) (paths : List (List ℕ)) → bytes_eq path other ≡ false
    → among (without other paths) path ≡ among paths path
among-without path other [] apart = refl
among-without path other (p ∷ ps) apart =
    cases (bytes_eq other p)
    (λ is. let same = same_bytes other p is in
    let missed : bytes_eq path p ≡ false = rw (← same) apart in
    rw (is, missed) (among-without path other ps apart))
    (λ stays. rw stays (ap (λ rest. if bytes_eq path p then true else rest)
    (among-without path other ps apart)))

among-gone : (path : List ℕ) (paths : List (List ℕ)) → among (without path paths) path ≡ false
among-gone path [] = refl
among-gone path (p ∷ ps) =
    cases (bytes_eq path p)
    (λ is. rw is (among-gone path ps))
    (λ apart. rw apart (rw apart (among-gone path ps)))

pub among-once : (paths : List (List ℕ)) (path : List ℕ) → among (once paths) path
    ≡ among paths path
among-once [] path = refl
among-once (p ∷ ps) path =
    cases (bytes_eq path p)
    (λ is. rw is refl)
    (λ apart. rw apart (among-without path p (once ps) apart ∙ among-once ps path))

-- each path stands once
abbrev pub IsOnce : List (List ℕ) → Type 0
IsOnce [] = Unit {0}
IsOnce (path ∷ paths) = (among paths path ≡ false) × IsOnce paths

still_not : (path other : List ℕ) (paths : List (List ℕ)) → among paths path ≡ false
    → among (without other paths) path ≡ false
still_not path other [] apart = refl
still_not path other (p ∷ ps) apart =
    cases (bytes_eq path p)
    (λ is. let here : true ≡ false = rw is at apart in absurd cc)
    (λ nor. let rest : among ps path ≡ false = rw nor at apart in
    cases (bytes_eq other p)
    (λ is. rw is (still_not path other ps rest))
    (λ none. rw (none, nor) (still_not path other ps rest)))

IsOnce-without : (path : List ℕ) (paths : List (List ℕ)) → IsOnce paths → IsOnce
    (without path paths)
IsOnce-without path [] each = tt
IsOnce-without path (p ∷ ps) each =
    cases (bytes_eq path p)
    (λ is. rw is (IsOnce-without path ps each.1))
    (λ apart. rw apart (still_not p path ps each.0, IsOnce-without path ps each.1))

pub once-IsOnce : (paths : List (List ℕ)) → IsOnce (once paths)
once-IsOnce [] = tt
once-IsOnce (p ∷ ps) = (among-gone p (once ps), IsOnce-without p (once ps) (once-IsOnce ps))

without-append : (path : List ℕ) (first second : List (List ℕ))
    → without path (first ++ second) ≡ without path first ++ without path second
without-append path first second = filter-append (λ other. not (bytes_eq path other)) first second

-- one more path at the end
pub once-push : (paths : List (List ℕ)) (path : List ℕ)
    → once (paths ++ path ∷ [])
    ≡ (if among paths path then once paths else once paths ++ path ∷ [])
once-push [] path = refl
once-push (p ∷ ps) path =
    rw (once-push ps path) (cases (bytes_eq path p)
    (λ is. let turned : bytes_eq p path ≡ true = bytes_eq-sym p path ∙ is in
    rw is (cases (among ps path)
    (λ there. rw there refl)
    (λ apart. rw (apart, without-append p (once ps) (path ∷ []), turned)
    (ap (λ rest. p ∷ rest) (append-nil (without p (once ps)))))))
    (λ nor. let turned : bytes_eq p path ≡ false = bytes_eq-sym p path ∙ nor in
    rw nor (cases (among ps path)
    (λ there. rw there refl)
    (λ apart. rw (apart, without-append p (once ps) (path ∷ []), turned) refl))))
