-- Ages, one after the other.
use Rattle.std.proofs.Common.{◌≡◌, ◌≢◌, ◌∙◌, ◌⊎◌, ℕ, zero, suc, ◌<◌, ◌≤◌, ◌==◌, ◌||◌, not, List, [], ◌∷◌, ◌++◌, length, slice_get, Some, true, false}
use Rattle.std.proofs.Common.{inl, inr, refl, sym, ap, subst, arith, if◌then◌else◌}
use Rattle.std.proofs.lemmas.Bool.Decides.{eqb_tells}
use Rattle.std.proofs.lemmas.List.{length-map}
use Rattle.mk_plan.specs.Lists.{is_nil}
use Rattle.mk_plan.specs.Plans.{node_at}
use Rattle.mk_plan.specs.declared.plan.PlanNode.{PlanNode}
use Rattle.mk_world.specs.declared.time.When.{When}
use Rattle.mk_world.specs.declared.time.When.TheVariants.{Missing, At, Unknown}
use Rattle.mk_decision.specs.Ages.{newer, newest, age_of_missing, age_by, age_of, age, source_ages, counted, AreSeen, AreBefore}
use Rattle.mk_oodate.specs.declared.reason.Age.{Age}
use Rattle.mk_oodate.specs.declared.reason.Age.TheVariants as of
use Rattle.mk_decision.specs.declared.sight.Sighting.{Sighting}

AreBefore-more : (place most : ℕ) (seen : List Sighting) → place ≤ most → AreBefore place seen
    → AreBefore most seen
AreBefore-more place most [] less are = tt
AreBefore-more place most (one ∷ seen) less are =
    let first = are.0 in (omega arith, AreBefore-more place most seen less are.1)

-- what was seen before a place is of nodes before it
pub are-before : (nodes : List PlanNode) (n : ℕ) (wanted : List ℕ) (seen : List Sighting)
    → AreSeen nodes n wanted seen → AreBefore n seen
are-before nodes zero wanted seen is = subst (AreBefore 0) (sym is) tt
are-before nodes (suc place) wanted seen (inl passed) =
    AreBefore-more place (suc place) seen (omega arith)
    (are-before nodes place wanted seen passed.1)
are-before nodes (suc place) wanted seen (inr looked) =
    subst (AreBefore (suc place)) (sym looked.3) (
      omega arith,
      AreBefore-more place (suc place) looked.2 (omega arith)
          (are-before nodes place (counted (node_at nodes place) looked.1 ++ wanted) looked.2 looked.4),
    )

-- and so is each sighting
pub before-at : (n : ℕ) (seen : List Sighting) (i : ℕ) (one : Sighting) → AreBefore n seen
    → slice_get seen i ≡ Some one → one.place < n
before-at n [] i one are is = cc
before-at n (first ∷ seen) zero one are is = let same : first ≡ one = cc in rw (← same) are.0
before-at n (first ∷ seen) (suc i) one are is = before-at n seen i one are.1 is

-- ages that are the same make the same age
newest-same : (first second : ℕ → Age) (one : Age) (places : List ℕ)
    → ((place : ℕ) → first place ≡ second place) → newest first one places ≡ newest second one places
newest-same first second one [] same = refl
newest-same first second one (place ∷ places) same =
    ap (λ a. newest first (newer one a) places) (same place)
    ∙ newest-same first second (newer one (second place)) places same

missing-same : (node : PlanNode) (first second : ℕ → Age)
    → ((place : ℕ) → first place ≡ second place) → age_of_missing node first ≡ age_of_missing node second
missing-same node first second same =
    ap (λ (a : Age). if node.marks.exec then of.Old
    else (if not (is_nil node.commands) || is_nil node.sources then of.New else a))
    (newest-same first second of.Old node.sources same)

by-same : (when : When) (node : PlanNode) (first second : ℕ → Age)
    → ((place : ℕ) → first place ≡ second place) → age_by when node first ≡ age_by when node second
by-same Unknown node first second same = refl
by-same (At time) node first second same = refl
by-same Missing node first second same = missing-same node first second same

age_of-same : (node : PlanNode) (when : When) (first second : ℕ → Age)
    → ((place : ℕ) → first place ≡ second place) → age_of node when first ≡ age_of node when second
age_of-same node when first second same =
    ap (λ (a : Age). if node.marks.phony then of.New else a) (by-same when node first second same)

-- one age more
pub age-more : (nodes : List PlanNode) (seen more : List Sighting) (one : Sighting)
    (ages now : ℕ → Age) (given : Age) → seen ≡ one ∷ more
    → ((place : ℕ) → ages place ≡ age nodes more place)
    → given ≡ age_of (node_at nodes one.place) one.when ages
    → now one.place ≡ given
    → ((place : ℕ) → place ≢ one.place → now place ≡ ages place)
    → (place : ℕ) → now place ≡ age nodes seen place
age-more nodes seen more one ages now given are before is here others place =
    rw are (by (eqb_tells one.place place))
  where
    by : ((one.place == place ≡ true) × (one.place ≡ place))
        ⊎ ((one.place == place ≡ false) × (one.place ≢ place))
        → now place ≡ age nodes (one ∷ more) place
    by (inl same) =
        rw same.0 (ap now (sym same.1) ∙ (here ∙ (is
        ∙ (age_of-same (node_at nodes one.place) one.when ages (age nodes more) before
        ∙ ap (λ k. age_of (node_at nodes k) one.when (age nodes more)) same.1))))
    by (inr other) = rw other.0 (others place (λ same. other.1 (sym same)) ∙ before place)

-- as many ages as sources
pub ages-long : (nodes : List PlanNode) (n : ℕ) (seen : List Sighting)
    → length (source_ages nodes n seen) ≡ length (node_at nodes n).sources
ages-long nodes n seen = length-map (node_at nodes n).sources (age nodes seen)
