-- The least of all stands at place 1.
use Rattle.std.proofs.Common.{◌≡◌, ◌≢◌, ◌∙◌, ℕ, zero, suc, ◌+◌, ◌*◌, ◌-◌, ◌/◌, ◌<◌, ◌≤◌, List, length, set, min}
use Rattle.std.proofs.Common.{inl, inr, sym, ap, subst, arith}
use Rattle.std.proofs.lemmas.List.{get_or-set_same, get_or-set_other}
use Rattle.std.proofs.lemmas.Bool.{cases_eq, cases_lt}
use Rattle.mk_sched.specs.Least.{IsLesser, IsTournament, entry}

-- after an entry got the lesser of its two, all are so but perhaps the one above it
pub lesser_again : (entries : List ℕ) (count place half value : ℕ) → length entries ≡ 2 * count
    → 1 < place → place < 2 * count → 2 * half ≤ place → place ≤ 2 * half + 1
    → value ≡ min (entry entries (2 * half)) (entry entries (2 * half + 1))
    → ((above : ℕ) → 0 < above → above < count → 2 * above ≢ place → 2 * above + 1 ≢ place
    → IsLesser entries above)
    → (above : ℕ) → 0 < above → above < count → 2 * above ≢ half → 2 * above + 1 ≢ half
    → IsLesser (set entries half value) above
lesser_again entries count place half value long some within low high is each above positive below left right =
    let in_range : half < length entries = omega (arith, long, within, low) in
    let first = get_or-set_other entries half (2 * above) value 0 left in
    let second = get_or-set_other entries half (2 * above + 1) value 0 right in
    elim (cases_eq above half) [
      | inl e ↦
          let here : entry (set entries half value) above ≡ value =
          subst (λ a. entry (set entries half value) a ≡ value) (sym e) (get_or-set_same entries half value 0 in_range) in
          let lesser : value ≡ min (entry entries (2 * above)) (entry entries (2 * above + 1)) =
          subst (λ a. value ≡ min (entry entries (2 * a)) (entry entries (2 * a + 1))) (sym e) is in
          rw (first, second) (here ∙ lesser)
      | inr ne ↦
          let here = get_or-set_other entries half above value 0 ne in
          let not_left : 2 * above ≢ place = λ e. absurd (omega (arith, e, low, high, ne)) in
          let not_right : 2 * above + 1 ≢ place = λ e. absurd (omega (arith, e, low, high, ne)) in
          rw (here, first, second) (each above positive below not_left not_right)
    ]

least_by : (fuel count : ℕ) (entries : List ℕ) → IsTournament count entries
    → (place : ℕ) → place ≤ fuel → 0 < place → place < 2 * count
    → entry entries 1 ≤ entry entries place
least_by zero count entries t place le some within = absurd (omega (arith, le, some))
least_by (suc fuel) count entries t place le some within = elim (cases_eq place 1) [
  | inl e ↦ subst (λ p. entry entries 1 ≤ entry entries p) (sym e) (omega arith)
  | inr ne ↦
      let low : 2 * (place / 2) ≤ place = omega arith in
      let high : place ≤ 2 * (place / 2) + 1 = omega arith in
      let smaller : place / 2 ≤ fuel = omega (arith, low, le, some) in
      let positive : 0 < place / 2 = omega (arith, high, some, ne) in
      let below : place / 2 < count = omega (arith, low, within) in
      let inside : place / 2 < 2 * count = omega (arith, below) in
      let above = least_by fuel count entries t (place / 2) smaller positive inside in
      let lesser = t.each (place / 2) positive below in
      elim (cases_eq place (2 * (place / 2))) [
        | inl e ↦ subst (λ p. entry entries 1 ≤ entry entries p) (sym e) (omega (arith, above, lesser))
        | inr other ↦
            let e : place ≡ 2 * (place / 2) + 1 = omega (arith, low, high, other) in
            subst (λ p. entry entries 1 ≤ entry entries p) (sym e) (omega (arith, above, lesser))
      ]
]

pub least_of_all : (count : ℕ) (entries : List ℕ) → IsTournament count entries
    → (place : ℕ) → 0 < place → place < 2 * count → entry entries 1 ≤ entry entries place
least_of_all count entries t place some within =
    let le : place ≤ place = omega arith in
    least_by place count entries t place le some within

-- a node whose entry is this one
pub record IsOfNode (count : ℕ) (entries : List ℕ) (value : ℕ) : Type 0 where
  pub node : ℕ
  pub within : node < count
  pub is : value ≡ entry entries (count + node)

same_value : (count : ℕ) (entries : List ℕ) (value other : ℕ) → value ≡ other
    → IsOfNode count entries other → IsOfNode count entries value
same_value count entries value other e of =
    record { node = of.node; within = of.within; is = e ∙ of.is }

attained_by : (fuel count : ℕ) (entries : List ℕ) → IsTournament count entries
    → (place : ℕ) → 2 * count ≤ place + fuel → 0 < place → place < 2 * count
    → IsOfNode count entries (entry entries place)
attained_by zero count entries t place le some within = absurd (omega (arith, le, within))
attained_by (suc fuel) count entries t place le some within = elim (cases_lt place count) [
  | inl below ↦
      let lesser = t.each place some below in
      let first_some : 0 < 2 * place = omega (arith, some) in
      let first_within : 2 * place < 2 * count = omega (arith, below) in
      let first_le : 2 * count ≤ 2 * place + fuel = omega (arith, le, some) in
      let second_some : 0 < 2 * place + 1 = omega arith in
      let second_within : 2 * place + 1 < 2 * count = omega (arith, below) in
      let second_le : 2 * count ≤ 2 * place + 1 + fuel = omega (arith, le, some) in
      elim (cases_lt (entry entries (2 * place)) (entry entries (2 * place + 1))) [
        | inl less ↦
            let e : entry entries place ≡ entry entries (2 * place) = omega (arith, lesser, less) in
            same_value count entries _ _ e (attained_by fuel count entries t (2 * place) first_le first_some first_within)
        | inr not_less ↦
            let e : entry entries place ≡ entry entries (2 * place + 1) = omega (arith, lesser, not_less) in
            same_value count entries _ _ e (attained_by fuel count entries t (2 * place + 1) second_le second_some second_within)
      ]
  | inr past ↦ record {
    node = place - count;
    within = omega (arith, past, within);
    is = ap (entry entries) (omega (arith, past));
  }
]

pub attained : (count : ℕ) (entries : List ℕ) → IsTournament count entries → 0 < count
    → IsOfNode count entries (entry entries 1)
attained count entries t some =
    let le : 2 * count ≤ 1 + 2 * count = omega arith in
    let positive : 0 < 1 = omega arith in
    let within : 1 < 2 * count = omega (arith, some) in
    attained_by (2 * count) count entries t 1 le positive within
