-- Ages by what was seen are what the rules say by the ages of each node's own sources.
use Rattle.std.proofs.Common.{◌≡◌, ◌∙◌, ℕ, zero, suc, ◌<◌, ◌==◌, ◌||◌, not, List, [], ◌∷◌, ◌++◌, slice_get, Some, true, false}
use Rattle.std.proofs.Common.{inl, inr, refl, sym, ap, arith, if◌then◌else◌}
use Rattle.std.proofs.lemmas.Bool.Decides.{nat_tests}
use Rattle.mk_plan.specs.Lists.{is_nil}
use Rattle.mk_plan.specs.Plans.{node_at}
use Rattle.mk_plan.specs.declared.plan.PlanNode.{PlanNode}
use Rattle.mk_world.specs.declared.time.When.{When}
use Rattle.mk_world.specs.declared.time.When.TheVariants.{Missing, At, Unknown}
use Rattle.mk_decision.specs.Ages.{newer, newest, age_by, age_of, age, counted, AreSeen}
use Rattle.mk_oodate.specs.declared.reason.Age.{Age}
use Rattle.mk_oodate.specs.declared.reason.Age.TheVariants as of
use Rattle.mk_decision.specs.declared.sight.Sighting.{Sighting}
use Rattle.mk_decision.proofs.AgeLemmas.{are-before, before-at}

-- all of these are before a place
abbrev pub AreBehind : ℕ → List ℕ → Type 0
AreBehind place [] = Unit {0}
AreBehind place (one ∷ places) = (one < place) × AreBehind place places

-- ages that are the same before a place
abbrev AgreeBefore : ℕ → (ℕ → Age) → (ℕ → Age) → Type 0
AgreeBefore place first second = (one : ℕ) → one < place → first one ≡ second one

newest-agree : (first second : ℕ → Age) (one : Age) (place : ℕ) (places : List ℕ)
    → AreBehind place places → AgreeBefore place first second
    → newest first one places ≡ newest second one places
newest-agree first second one place [] behind agree = refl
newest-agree first second one place (source ∷ places) behind agree =
    ap (λ a. newest first (newer one a) places) (agree source behind.0)
    ∙ newest-agree first second (newer one (second source)) place places behind.1 agree

by-agree : (when : When) (node : PlanNode) (first second : ℕ → Age) (place : ℕ)
    → AreBehind place node.sources → AgreeBefore place first second
    → age_by when node first ≡ age_by when node second
by-agree Unknown node first second place behind agree = refl
by-agree (At time) node first second place behind agree = refl
by-agree Missing node first second place behind agree =
    ap (λ (a : Age). if node.marks.exec then of.Old
    else (if not (is_nil node.commands) || is_nil node.sources then of.New else a))
    (newest-agree first second of.Old place node.sources behind agree)

age_of-agree : (node : PlanNode) (when : When) (first second : ℕ → Age) (place : ℕ)
    → AreBehind place node.sources → AgreeBefore place first second
    → age_of node when first ≡ age_of node when second
age_of-agree node when first second place behind agree =
    ap (λ (a : Age). if node.marks.phony then of.New else a)
    (by-agree when node first second place behind agree)

-- what is seen of later nodes does not count for earlier ones
age-earlier : (nodes : List PlanNode) (first : Sighting) (seen : List Sighting) (place : ℕ)
    → place < first.place → age nodes seen place ≡ age nodes (first ∷ seen) place
age-earlier nodes first seen place before =
    let other : first.place == place ≡ false = grind (arith, nat_tests) in rw other refl

age-here : (nodes : List PlanNode) (first : Sighting) (seen : List Sighting)
    → age nodes (first ∷ seen) first.place
    ≡ age_of (node_at nodes first.place) first.when (age nodes seen)
age-here nodes first seen =
    let same : first.place == first.place ≡ true = grind (arith, nat_tests) in rw same refl

-- Where each node stands behind its sources, the age of each node that was looked at is the one by the
-- time of its file and by the ages of its sources.
pub age-by_sources : (nodes : List PlanNode) (n : ℕ) (wanted : List ℕ) (seen : List Sighting)
    → ((place : ℕ) → AreBehind place (node_at nodes place).sources)
    → AreSeen nodes n wanted seen → (i : ℕ) (one : Sighting) → slice_get seen i ≡ Some one
    → age nodes seen one.place ≡ age_of (node_at nodes one.place) one.when (age nodes seen)
age-by_sources nodes zero wanted seen behind are i one is =
    let none : slice_get [] i ≡ Some one = rw are at is in absurd cc
age-by_sources nodes (suc place) wanted seen behind (inl passed) i one is =
    age-by_sources nodes place wanted seen behind passed.1 i one is
age-by_sources nodes (suc place) wanted seen behind (inr looked) i one is =
    let first : Sighting = record { place = place; when = looked.1 } in
    let more = looked.2 in
    let rest = age-by_sources nodes place (counted (node_at nodes place) looked.1 ++ wanted) more behind
    looked.4 in
    let below = are-before nodes place (counted (node_at nodes place) looked.1 ++ wanted) more looked.4 in
    let found : slice_get (first ∷ more) i ≡ Some one = rw looked.3 at is in
    rw looked.3 (by i found rest (λ j at. before-at place more j one below at))
  where
    by : (i : ℕ) → slice_get (record { place = place; when = looked.1 } ∷ looked.2) i ≡ Some one
        → ((j : ℕ) (other : Sighting) → slice_get looked.2 j ≡ Some other
        → age nodes looked.2 other.place
        ≡ age_of (node_at nodes other.place) other.when (age nodes looked.2))
        → ((j : ℕ) → slice_get looked.2 j ≡ Some one → one.place < place)
        → age nodes (record { place = place; when = looked.1 } ∷ looked.2) one.place
        ≡ age_of (node_at nodes one.place) one.when
        (age nodes (record { place = place; when = looked.1 } ∷ looked.2))
    by zero found rest below =
        let first : Sighting = record { place = place; when = looked.1 } in
        let same : first ≡ one = cc in
        rw (← same) (age-here nodes first looked.2
        ∙ age_of-agree (node_at nodes place) looked.1 (age nodes looked.2)
        (age nodes (first ∷ looked.2)) place (behind place)
        (λ k before. age-earlier nodes first looked.2 k before))
    by (suc j) found rest below =
        let first : Sighting = record { place = place; when = looked.1 } in
        let before = below j found in
        sym (age-earlier nodes first looked.2 one.place before) ∙ (rest j one found
        ∙ age_of-agree (node_at nodes one.place) one.when (age nodes looked.2)
        (age nodes (first ∷ looked.2)) one.place (behind one.place)
        (λ k earlier. age-earlier nodes first looked.2 k (omega arith)))
