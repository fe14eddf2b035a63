-- Texts among others.
use Rattle.std.proofs.Common.{◌≡◌, ◌∙◌, ℕ, zero, suc, ◌<◌, ◌||◌, Bool, true, ◌⊎◌, inl, inr}
use Rattle.std.proofs.Common.{List, [], ◌∷◌, ◌++◌, filter, length, get_or, refl, sym, ap, subst}
use Rattle.std.proofs.Common.{arith}
use Rattle.std.proofs.lemmas.Bool.{or_cases, or_left, or_right, cases_Bool, false≢true}
use Rattle.std.proofs.lemmas.List.Folds.{list_any-append}
use Rattle.std.proofs.lemmas.Slice.Eq.{bytes_eq-Decides}
use Rattle.std.specs.Str.{bytes_eq}
use Rattle.mk_depline.specs.Names.{is_among}

-- each of the other names is among these
abbrev pub Covers : List (List ℕ) → List (List ℕ) → Type 0
Covers names others = (x : List ℕ) → is_among others x ≡ true → is_among names x ≡ true

pub bytes_same : (x : List ℕ) → bytes_eq x x ≡ true
bytes_same x = (bytes_eq-Decides x x).1 refl

pub same_bytes : (x y : List ℕ) → bytes_eq x y ≡ true → x ≡ y
same_bytes x y is = (bytes_eq-Decides x y).0 is

pub among-head : (x : List ℕ) (more : List (List ℕ)) → is_among (x ∷ more) x ≡ true
among-head x more = or_left (bytes_eq x x) (is_among more x) (bytes_same x)

pub among-tail : (x one : List ℕ) (more : List (List ℕ)) → is_among more x ≡ true
    → is_among (one ∷ more) x ≡ true
among-tail x one more among = or_right (bytes_eq x one) (is_among more x) among

-- it is the first one, or among the others
pub among-split : (x one : List ℕ) (more : List (List ℕ)) → is_among (one ∷ more) x ≡ true
    → (x ≡ one) ⊎ (is_among more x ≡ true)
among-split x one more among =
    elim (or_cases (bytes_eq x one) (is_among more x) among) [
      | inl same ↦ inl (same_bytes x one same)
      | inr later ↦ inr later
    ]

pub among-append : (a b : List (List ℕ)) (x : List ℕ)
    → is_among (a ++ b) x ≡ (is_among a x || is_among b x)
among-append a b x = list_any-append (bytes_eq x) a b

pub among-before : (a b : List (List ℕ)) → Covers (a ++ b) a
among-before a b x among =
    among-append a b x ∙ or_left (is_among a x) (is_among b x) among

pub among-behind : (a b : List (List ℕ)) → Covers (a ++ b) b
among-behind a b x among =
    among-append a b x ∙ or_right (is_among a x) (is_among b x) among

pub among-either : (a b : List (List ℕ)) (x : List ℕ) → is_among (a ++ b) x ≡ true
    → (is_among a x ≡ true) ⊎ (is_among b x ≡ true)
among-either a b x among =
    or_cases (is_among a x) (is_among b x) (sym (among-append a b x) ∙ among)

pub among-place : (names : List (List ℕ)) (i : ℕ) (name : List ℕ) → i < length names
    → name ≡ get_or names i name → is_among names name ≡ true
among-place [] i name within is = absurd (omega arith)
among-place (one ∷ more) zero name within is =
    subst (λ x. is_among (one ∷ more) x ≡ true) (sym is) (among-head one more)
among-place (one ∷ more) (suc i) name within is =
    among-tail name one more (among-place more i name (omega arith) is)

-- what covers both parts covers all
pub Covers-append : (names a b : List (List ℕ)) → Covers names a → Covers names b
    → Covers names (a ++ b)
Covers-append names a b first second x among =
    elim (among-either a b x among) [
      | inl before ↦ first x before
      | inr behind ↦ second x behind
    ]

pub Covers-then : (a b c : List (List ℕ)) → Covers a b → Covers b c → Covers a c
Covers-then a b c first second x among = first x (second x among)

pub Covers-cons : (names : List (List ℕ)) (one : List ℕ) (more : List (List ℕ))
    → is_among names one ≡ true → Covers names more → Covers names (one ∷ more)
Covers-cons names one more first others x among =
    elim (among-split x one more among) [
      | inl same ↦ subst (λ y. is_among names y ≡ true) (sym same) first
      | inr later ↦ others x later
    ]

pub Covers-more : (names others more : List (List ℕ)) → Covers names others
    → Covers (names ++ more) (others ++ more)
Covers-more names others more covers =
    Covers-append (names ++ more) others more
    (Covers-then (names ++ more) names others (among-before names more) covers)
    (among-behind names more)

-- what passes a test and is among names is among those that pass
pub among-filter : (p : List ℕ → Bool) (names : List (List ℕ)) (x : List ℕ)
    → p x ≡ true → is_among names x ≡ true → is_among (filter p names) x ≡ true
among-filter p [] x passes among = among
among-filter p (one ∷ more) x passes among =
    elim (among-split x one more among) [
      | inl same ↦
          rw (sym (ap p same) ∙ passes)
          (subst (λ y. is_among (one ∷ filter p more) y ≡ true) (sym same)
          (among-head one (filter p more)))
      | inr later ↦
          elim (cases_Bool (p one)) [
            | inl keeps ↦
                rw keeps (among-tail x one (filter p more) (among-filter p more x passes later))
            | inr drops ↦ rw drops (among-filter p more x passes later)
          ]
    ]

pub among-filtered : (p : List ℕ → Bool) (names : List (List ℕ)) (x : List ℕ)
    → is_among (filter p names) x ≡ true → (p x ≡ true) × (is_among names x ≡ true)
among-filtered p [] x among = absurd (false≢true among)
among-filtered p (one ∷ more) x among =
    elim (cases_Bool (p one)) [
      | inl keeps ↦
          elim (among-split x one (filter p more) (rw keeps at among)) [
            | inl same ↦ (
              ap p same ∙ keeps,
              subst (λ y. is_among (one ∷ more) y ≡ true) (sym same)
                  (among-head one more),
            )
            | inr later ↦
                let rest = among-filtered p more x later in
                (rest.0, among-tail x one more rest.1)
          ]
      | inr drops ↦
          let rest = among-filtered p more x (rw drops at among) in
          (rest.0, among-tail x one more rest.1)
    ]
