-- Attributes and special targets are clean as they are.
use Rattle.std.proofs.Common.{◌≡◌, ℕ, zero, suc, ◌+◌, Bool, true, false, ◌||◌, List, [], ◌∷◌, ◌++◌, Option, Some}
use Rattle.std.proofs.Common.{is_some, cond, codes, map, take, drop, slice_get, slice_set, refl, sym, ap, ◌∙◌, arith}
use Rattle.std.proofs.lemmas.Slice.Eq.{bytes_eq-Decides}
use Rattle.std.specs.List.{list_all}
use Rattle.std.specs.Str.{bytes_eq}
use Rattle.mk_bytes.specs.Paths.{clean, is_name, names_on}
use Rattle.mk_bytes.proofs.PieceLemmas.{cond_cases}
use Rattle.mk_bytes.proofs.PathLemmas.{both_hold, clean-names}
use Rattle.mk_depline.specs.Lines.{cleaned}
use Rattle.mk_depline.specs.Names.{attributes, is_among, is_attribute, special_named}

abbrev are_names : List ℕ → Bool
are_names path = list_all is_name (names_on path)

-- what is among paths of names is such a path
names-among : (paths : List (List ℕ)) (path : List ℕ) → list_all are_names paths ≡ true
    → is_among paths path ≡ true → are_names path ≡ true
names-among [] path all is = cc
names-among (one ∷ paths) path all is =
    let both = both_hold (are_names one) (list_all are_names paths) all in
    cond_cases (bytes_eq path one)
    (λ same. rw ((bytes_eq-Decides path one).0 same) both.0)
    (λ other. names-among paths path both.1 (rw other at is))

abbrev specials : List (List ℕ)
specials =
    codes ".MAIN" ∷ codes ".BEGIN" ∷ codes ".END" ∷ codes ".DEFAULT" ∷ codes ".ORDER"
    ∷ codes ".SUFFIXES" ∷ codes ".PATH" ∷ codes ".NOTPARALLEL" ∷ codes ".DELETE_ON_ERROR"
    ∷ codes ".PHONY" ∷ codes ".PRECIOUS" ∷ codes ".SILENT" ∷ codes ".IGNORE" ∷ []

some-or : {A : Type 0} (found : Bool) (one : A) (others : Option A)
    → is_some (cond found (Some one) others) ≡ (found || is_some others)
some-or true one others = refl
some-or false one others = refl

special-among : (name : List ℕ) → is_some (special_named name) ≡ is_among specials name
special-among name = simp some-or

-- each name of a line is cleaned as a path
pub cleaned-path : (cwd name : List ℕ) → cleaned cwd name ≡ clean cwd name
cleaned-path cwd name =
    cond_cases (is_attribute name)
    (λ is. rw is (sym (clean-names cwd name (names-among attributes name refl is))))
    (λ other.
    cond_cases (is_some (special_named name))
    (λ is. rw (other, is)
    (sym (clean-names cwd name (names-among specials name refl (sym (special-among name) ∙ is)))))
    (λ none. rw (other, none) refl))

-- the next of a list whose items so far are changed is changed too
pub changed-next : {A : Type 0} (change : A → A) (items : List A) (at : ℕ) (one : A)
    → Some one ≡ slice_get (map change (take at items) ++ drop at items) at
    → map change (take (at + 1) items) ++ drop (at + 1) items
    ≡ slice_set (map change (take at items) ++ drop at items) at (change one)
changed-next change [] zero one is = cc
changed-next change [] (suc at) one is = cc
changed-next change (item ∷ items) zero one is =
    let same : one ≡ item = cc in rw same refl
changed-next change (item ∷ items) (suc at) one is =
    let next : suc at + 1 ≡ suc (at + 1) = omega arith in
    rw next (ap (λ behind. change item ∷ behind) (changed-next change items at one is))
