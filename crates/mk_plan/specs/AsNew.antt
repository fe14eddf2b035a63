-- Nodes that count as new for those that are made from them.
use Rattle.std.specs.Prelude.{ℕ, List, slice_set}
use Rattle.mk_graph.specs.Marks.{marked}
use Rattle.mk_graph.specs.declared.attr.Attr.TheVariants.{Phony}
use Rattle.mk_plan.specs.Plans.{node_at}
use Rattle.mk_plan.specs.declared.plan.PlanNode.{PlanNode}

-- a node that is phony, too
abbrev pub phony : PlanNode → PlanNode
phony node = record node { marks = marked node.marks Phony }

-- A phony node is new, whatever its file is. So a node that is to count as new for the nodes that
-- are made from it is one of a plan in which it is phony.
abbrev pub as_new : List PlanNode → ℕ → List PlanNode
as_new nodes n = slice_set nodes n (phony (node_at nodes n))
