-- The names of sources, by their places.
use Rattle.std.proofs.Common.{◌≡◌, ℕ, zero, suc, ◌<◌, ◌≤◌, List, [], ◌∷◌, length, get_or, refl, arith}
use Rattle.mk_plan.specs.Plans.{node_at}
use Rattle.mk_plan.specs.Tasks.{names_at}
use Rattle.mk_plan.specs.declared.plan.PlanNode.{PlanNode}

pub name-at : (nodes : List PlanNode) (places : List ℕ) (i : ℕ) → i < length places
    → (node_at nodes (get_or places i 0)).name ≡ get_or (names_at nodes places) i []
name-at nodes [] i within = absurd (omega arith)
name-at nodes (one ∷ places) zero within = refl
name-at nodes (one ∷ places) (suc i) within = name-at nodes places i (omega arith)

pub name-behind : (nodes : List PlanNode) (places : List ℕ) (i : ℕ) → length places ≤ i
    → [] ≡ get_or (names_at nodes places) i []
name-behind nodes [] i behind = refl
name-behind nodes (one ∷ places) zero behind = absurd (omega arith)
name-behind nodes (one ∷ places) (suc i) behind = name-behind nodes places i (omega arith)
