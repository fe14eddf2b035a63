-- A node that counts as new is new, and the others are what they were.
use Rattle.std.proofs.Common.{◌≡◌, ℕ, ◌<◌, ◌==◌, true, List, ◌∷◌, length, refl, arith}
use Rattle.std.proofs.lemmas.Bool.Decides.{nat_tests}
use Rattle.std.proofs.lemmas.List.{get_or-set_other, get_or-set_same, length-set}
use Rattle.mk_plan.specs.AsNew.{as_new, phony}
use Rattle.mk_plan.specs.Plans.{no_node, node_at}
use Rattle.mk_plan.specs.declared.plan.PlanNode.{PlanNode}
use Rattle.mk_decision.specs.Ages.{age, age_of}
use Rattle.mk_decision.specs.declared.sight.Sighting.{Sighting}
use Rattle.mk_oodate.specs.declared.reason.Age.{Age}
use Rattle.mk_oodate.specs.declared.reason.Age.TheVariants.{New}
use Rattle.mk_world.specs.declared.time.When.{When}
use Rattle.mk_explain.specs.Laws.{CountsAsNew, OthersStay}

pub node_at-as_new : (nodes : List PlanNode) (n : ℕ) → n < length nodes
    → node_at (as_new nodes n) n ≡ phony (node_at nodes n)
node_at-as_new nodes n within = get_or-set_same nodes n (phony (node_at nodes n)) no_node within

pub length-as_new : (nodes : List PlanNode) (n : ℕ) → length (as_new nodes n) ≡ length nodes
length-as_new nodes n = length-set nodes n (phony (node_at nodes n))

age_of-as_new : (nodes : List PlanNode) (n : ℕ) → n < length nodes → (when : When) (ages : ℕ → Age)
    → age_of (node_at (as_new nodes n) n) when ages ≡ New
age_of-as_new nodes n within when ages = rw (node_at-as_new nodes n within) refl

pub counts-as-new : CountsAsNew
counts-as-new nodes n within = (age_of-as_new nodes n within, λ one seen at. by one seen at)
  where
    by : (one : Sighting) (seen : List Sighting) → one.place ≡ n → age (as_new nodes n) (one ∷ seen) n ≡ New
    by one seen at =
        let same : one.place == n ≡ true = grind (arith, nat_tests) in
        rw same (age_of-as_new nodes n within one.when (age (as_new nodes n) seen))

pub others-stay : OthersStay
others-stay nodes n = (
  length-as_new nodes n,
  λ other apart. get_or-set_other nodes n other (phony (node_at nodes n)) no_node apart,
)
