use Rattle.std.proofs.Common.{◌≡◌, drop}
use Rattle.mk_graph.specs.StepView.{nodes_on}
use Rattle.mk_graph.specs.Walks.{from_node}
use Rattle.mk_graph.proofs.walk.from_node.Given as goal

-- no step so far is of the node
abbrev pub invariant-loop-place : goal.invariant-loop-place
invariant-loop-place l =
    from_node (nodes_on (drop l.place l.path)) l.n ≡ from_node (nodes_on l.path) l.n
