-- The names of the nodes of a plan.
use Rattle.std.specs.Prelude.{ℕ, List, map}
use Rattle.mk_plan.specs.declared.names.Held.{Held}
use Rattle.mk_plan.specs.declared.names.Held.TheVariants.{Nodes, Copies}
use Rattle.mk_plan.specs.declared.plan.PlanNode.{PlanNode}

abbrev pub names_of : List PlanNode → List (List ℕ)
names_of nodes = map (λ (node : PlanNode). node.name) nodes

-- the names that are held, with their nodes or as copies
abbrev pub held_names : Held → List (List ℕ)
held_names (Nodes nodes) = names_of nodes
held_names (Copies names) = names
