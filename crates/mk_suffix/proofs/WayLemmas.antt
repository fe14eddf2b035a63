-- The chains from steps, one after the other.
use Rattle.std.proofs.Common.{◌≡◌, ◌∙◌, ℕ, zero, suc, ◌+◌, ◌-◌, ◌<◌, ◌||◌, List, [], ◌∷◌, ◌++◌}
use Rattle.std.proofs.Common.{length}
use Rattle.std.proofs.Common.{get_or, slice_get, Some, Result, Ok, Err, OnOk, OnErr, refl, sym}
use Rattle.std.proofs.Common.{ap, subst, arith, append_assoc, length-append}
use Rattle.std.proofs.Math.ListN.{get_or-append}
use Rattle.std.proofs.lemmas.List.{append-nil}
use Rattle.std.proofs.lemmas.Option.{get_or_from_slice_get}
use Rattle.std.specs.Str.{bytes_eq}
use Rattle.mk_depline.specs.Names.{is_among}
use Rattle.mk_suffix.specs.Search.{Way, own_way, way_at, way_by, reached}
use Rattle.mk_suffix.specs.SearchView.{way_of, ways_from, suffixes_of, has_step, AreBehind}
use Rattle.mk_suffix.specs.declared.step.Step.{Step}
use Rattle.mk_suffix.proofs.SearchLemmas.{reached-append}

pub ways_from-none : (ways : List Way) → ways_from ways [] ≡ ways
unfolding ways_from
ways_from-none ways = refl

pub length-ways_from : (ways : List Way) (steps : List Step)
    → length (ways_from ways steps) ≡ length ways + length steps
unfolding ways_from
length-ways_from ways [] = omega arith
length-ways_from ways (step ∷ more) =
    let rest = length-ways_from (ways ++ way_of ways step ∷ []) more in
    omega (arith, rest, length-append ways (way_of ways step ∷ []))

pub ways_from-append : (ways : List Way) (steps : List Step) (step : Step)
    → ways_from ways (steps ++ step ∷ [])
    ≡ ways_from ways steps ++ way_of (ways_from ways steps) step ∷ []
unfolding ways_from
ways_from-append ways [] step = refl
ways_from-append ways (one ∷ more) step = ways_from-append (ways ++ way_of ways one ∷ []) more step

-- the earlier ones stay
way_at-before : (ways : List Way) (steps : List Step) (i : ℕ) → i < length ways
    → way_at (ways_from ways steps) i ≡ way_at ways i
unfolding ways_from
way_at-before ways [] i within = refl
way_at-before ways (step ∷ more) i within =
    let grown = ways ++ way_of ways step ∷ [] in
    let longer = length-append ways (way_of ways step ∷ []) in
    way_at-before grown more i (omega (arith, longer))
    ∙ get_or-append ways (way_of ways step ∷ []) (own_way []) i within

pub get_or-behind : {A : Type 0} (items : List A) (item d : A)
    → get_or (items ++ item ∷ []) (length items) d ≡ item
get_or-behind [] item d = refl
get_or-behind (one ∷ more) item d = get_or-behind more item d

pub way_at-step : (ways : List Way) (steps : List Step) (i : ℕ) (d : Step)
    → AreBehind (length ways) steps → i < length steps
    → way_at (ways_from ways steps) (length ways + i)
    ≡ way_of (ways_from ways steps) (get_or steps i d)
unfolding ways_from
way_at-step ways [] i d behind within = absurd (omega arith)
way_at-step ways (step ∷ more) zero d behind within =
    let grown = ways ++ way_of ways step ∷ [] in
    let longer = length-append ways (way_of ways step ∷ []) in
    let place : length ways + 0 ≡ length ways = omega arith in
    let all = ways_from grown more in
    let still : way_at all step.to ≡ way_at ways step.to =
    way_at-before grown more step.to (omega (arith, longer, behind.0))
    ∙ get_or-append ways (way_of ways step ∷ []) (own_way []) step.to behind.0 in
    ap (way_at all) place
    ∙ (way_at-before grown more (length ways) (omega (arith, longer))
    ∙ (get_or-behind ways (way_of ways step) (own_way [])
    ∙ ap (λ way. way_by way step.suffix.now step.rule) (sym still)))
way_at-step ways (step ∷ more) (suc i) d behind within =
    let grown = ways ++ way_of ways step ∷ [] in
    let longer : length grown ≡ suc (length ways) =
    omega (arith, length-append ways (way_of ways step ∷ [])) in
    let place : length ways + suc i ≡ length grown + i = omega (arith, longer) in
    ap (way_at (ways_from grown more)) place
    ∙ way_at-step grown more i d (subst (λ n. AreBehind n more) (sym longer) behind.1)
    (omega arith)

pub reached-ways_from : (ways : List Way) (steps : List Step)
    → reached (ways_from ways steps) ≡ reached ways ++ suffixes_of steps
unfolding ways_from
reached-ways_from ways [] = sym (append-nil (reached ways))
reached-ways_from ways (step ∷ more) =
    let others = suffixes_of more in
    reached-ways_from (ways ++ way_of ways step ∷ []) more
    ∙ (ap (λ l. l ++ others) (reached-append ways (way_of ways step))
    ∙ append_assoc (reached ways) (step.suffix.now ∷ []) others)

pub has_step-among : (steps : List Step) (suffix : List ℕ)
    → has_step steps suffix ≡ is_among (suffixes_of steps) suffix
has_step-among [] suffix = refl
has_step-among (step ∷ more) suffix =
    ap (λ b. bytes_eq suffix step.suffix.now || b) (has_step-among more suffix)

pub AreBehind-append : (room : ℕ) (steps : List Step) (step : Step) → AreBehind room steps
    → step.to < room + length steps → AreBehind room (steps ++ step ∷ [])
AreBehind-append room [] step behind within = (omega arith, tt)
AreBehind-append room (one ∷ more) step behind within =
    (behind.0, AreBehind-append (suc room) more step behind.1 (omega arith))

pub AreBehind-at : (room : ℕ) (steps : List Step) (i : ℕ) (d : Step) → AreBehind room steps
    → i < length steps → (get_or steps i d).to < room + i
AreBehind-at room [] i d behind within = absurd (omega arith)
AreBehind-at room (step ∷ more) zero d behind within = omega (arith, behind.0)
AreBehind-at room (step ∷ more) (suc i) d behind within =
    let rest = AreBehind-at (suc room) more i d behind.1 (omega arith) in omega (arith, rest)

-- what holds of a list as it was and as it grew
pub as_was_or_grew : {T E A : Type 0} (result : Result T E) (P : A → Type 0) (old grown now : A)
    → OnOk result (now ≡ grown) → OnErr result (now ≡ old) → P grown → P old → P now
as_was_or_grew (Ok done) P old grown now ok err of_grown of_old = subst P (sym ok) of_grown
as_was_or_grew (Err fault) P old grown now ok err of_grown of_old = subst P (sym err) of_old

-- Below: the chains of a search, by its steps.
module _ (own : List ℕ) (steps : List Step) (ways : List Way) (behind : AreBehind 1 steps)
    (are : ways_from (own_way own ∷ []) steps ≡ ways) where
  pub as_many_ways : length ways ≡ length steps + 1
  as_many_ways = ap length (sym are) ∙ length-ways_from (own_way own ∷ []) steps ∙ omega arith

  pub own_way_is : way_at ways 0 ≡ own_way own
  own_way_is =
      ap (λ all. way_at all 0) (sym are)
      ∙ way_at-before (own_way own ∷ []) steps 0 (omega arith)

  -- the chain at a place behind the first
  pub way_is : (at : ℕ) (step : Step) → (at ≡ 0 → ⊥) → at < length ways
      → slice_get steps (at - 1) ≡ Some step → way_at ways at ≡ way_of ways step
  way_is at step behind_first within is =
      let place : at ≡ 1 + (at - 1) = omega arith in
      let inside : at - 1 < length steps = omega (arith, as_many_ways) in
      ap (λ i. way_at ways i) place
      ∙ (ap (λ all. way_at all (1 + (at - 1))) (sym are)
      ∙ (way_at-step (own_way own ∷ []) steps (at - 1) step behind inside
      ∙ (ap (λ all. way_of all (get_or steps (at - 1) step)) are
      ∙ ap (way_of ways) (get_or_from_slice_get steps (at - 1) step step is))))

  -- leads to an earlier one
  pub to_is_before : (at : ℕ) (step : Step) → (at ≡ 0 → ⊥) → at < length ways
      → slice_get steps (at - 1) ≡ Some step → step.to < at
  to_is_before at step behind_first within is =
      let inside : at - 1 < length steps = omega (arith, as_many_ways) in
      let before : (get_or steps (at - 1) step).to < 1 + (at - 1) =
      AreBehind-at 1 steps (at - 1) step behind inside in
      let same : (get_or steps (at - 1) step).to ≡ step.to =
      ap (λ (step : Step). step.to) (get_or_from_slice_get steps (at - 1) step step is) in
      omega (arith, before, same)

  pub reached_are : reached ways ≡ own ∷ suffixes_of steps
  reached_are = ap reached (sym are) ∙ reached-ways_from (own_way own ∷ []) steps

  pub pushed_are : (more : List Step) (step : Step) → more ≡ steps ++ step ∷ []
      → ways_from (own_way own ∷ []) more ≡ ways ++ way_of ways step ∷ []
  pushed_are more step is =
      ap (ways_from (own_way own ∷ [])) is
      ∙ (ways_from-append (own_way own ∷ []) steps step
      ∙ ap (λ all. all ++ way_of all step ∷ []) are)

  pub pushed_behind : (more : List Step) (step : Step) → more ≡ steps ++ step ∷ []
      → step.to < length ways → AreBehind 1 more
  pushed_behind more step is within =
      rw is (AreBehind-append 1 steps step behind (omega (arith, as_many_ways)))
