-- What it means that a node counts as new.
use Rattle.std.specs.Prelude.{◌≡◌, ◌≢◌, ℕ, ◌<◌, List, ◌∷◌, length}
use Rattle.mk_decision.specs.Ages.{age, age_of}
use Rattle.mk_decision.specs.declared.sight.Sighting.{Sighting}
use Rattle.mk_oodate.specs.declared.reason.Age.{Age}
use Rattle.mk_oodate.specs.declared.reason.Age.TheVariants.{New}
use Rattle.mk_plan.specs.AsNew.{as_new}
use Rattle.mk_plan.specs.Plans.{node_at}
use Rattle.mk_plan.specs.declared.plan.PlanNode.{PlanNode}
use Rattle.mk_world.specs.declared.time.When.{When}

-- The age of a node that counts as new is `New`, whatever was seen of it and of others.
abbrev pub CountsAsNew : Type 0
CountsAsNew =
    (nodes : List PlanNode) (n : ℕ) → n < length nodes
    → ((when : When) (ages : ℕ → Age) → age_of (node_at (as_new nodes n) n) when ages ≡ New)
    × ((one : Sighting) (seen : List Sighting) → one.place ≡ n → age (as_new nodes n) (one ∷ seen) n ≡ New)

-- Every other node has its age by the same rule, and as many nodes there are.
abbrev pub OthersStay : Type 0
OthersStay =
    (nodes : List PlanNode) (n : ℕ)
    → (length (as_new nodes n) ≡ length nodes)
    × ((other : ℕ) → other ≢ n → node_at (as_new nodes n) other ≡ node_at nodes other)
