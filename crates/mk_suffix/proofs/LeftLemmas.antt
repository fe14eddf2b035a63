-- How many known suffixes were not reached.
use Rattle.std.proofs.Common.{◌≡◌, ◌∙◌, ℕ, ◌<◌, ◌≤◌, Bool, true, false, inl, inr}
use Rattle.std.proofs.Common.{List, [], ◌∷◌, length, filter, refl, sym, subst, arith}
use Rattle.std.proofs.lemmas.Bool.{cases_Bool, false≢true}
use Rattle.mk_depline.specs.Names.{is_among}
use Rattle.mk_suffix.specs.Search.{left_over}
use Rattle.mk_suffix.proofs.AmongLemmas.{Covers, among-split}

pub left_over-limit : (known names : List (List ℕ)) → left_over known names ≤ length known
left_over-limit [] names = omega arith
left_over-limit (one ∷ more) names =
    elim (cases_Bool (is_among names one)) [
      | inl old ↦ rw old (let rest = left_over-limit more names in omega (arith, rest))
      | inr new ↦ rw new (let rest = left_over-limit more names in omega (arith, rest))
    ]

-- where more were reached, fewer are left
pub left_over-covers : (known names others : List (List ℕ)) → Covers others names
    → left_over known others ≤ left_over known names
left_over-covers [] names others covers = omega arith
left_over-covers (one ∷ more) names others covers =
    let rest = left_over-covers more names others covers in
    elim (cases_Bool (is_among names one)) [
      | inl old ↦ rw (old, covers one old) rest
      | inr new ↦
          elim (cases_Bool (is_among others one)) [
            | inl now ↦ rw (new, now) (omega (arith, rest))
            | inr still ↦ rw (new, still) (omega (arith, rest))
          ]
    ]

pub left_over-less : (known names others : List (List ℕ)) (x : List ℕ) → Covers others names
    → is_among known x ≡ true → is_among names x ≡ false → is_among others x ≡ true
    → left_over known others < left_over known names
left_over-less [] names others x covers among new now = absurd (false≢true among)
left_over-less (one ∷ more) names others x covers among new now =
    elim (cases_Bool (is_among names one)) [
      | inl old ↦
          elim (among-split x one more among) [
            | inl same ↦
                absurd (false≢true (sym new ∙ subst (λ y. is_among names y ≡ true) (sym same) old))
            | inr later ↦
                rw (old, covers one old) (left_over-less more names others x covers later new now)
          ]
      | inr fresh ↦
          elim (cases_Bool (is_among others one)) [
            | inl reached ↦
                let rest = left_over-covers more names others covers in
                rw (fresh, reached) (omega (arith, rest))
            | inr still ↦
                elim (among-split x one more among) [
                  | inl same ↦
                      absurd (false≢true (sym (subst (λ y. is_among others y ≡ false) (sym same)
                      still) ∙ now))
                  | inr later ↦
                      let rest = left_over-less more names others x covers later new now in
                      rw (fresh, still) (omega (arith, rest))
                ]
          ]
    ]

-- where none is left, none passes
pub filter-none : (p q : List ℕ → Bool) (names : List (List ℕ))
    → ((x : List ℕ) → p x ≡ true → q x ≡ true) → length (filter q names) ≤ 0
    → filter p names ≡ []
filter-none p q [] implies none = refl
filter-none p q (one ∷ more) implies none =
    elim (cases_Bool (q one)) [
      | inl passes ↦ let some = rw passes at none in absurd (omega (arith, some))
      | inr drops ↦
          elim (cases_Bool (p one)) [
            | inl wrong ↦ absurd (false≢true (sym drops ∙ implies one wrong))
            | inr too ↦ rw too (filter-none p q more implies (rw drops at none))
          ]
    ]
