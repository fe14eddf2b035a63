use Rattle.std.proofs.Common.{◌≡◌, ◌<◌, length, drop}
use Rattle.mk_graph.specs.Numbers.{AreBelow}
use Rattle.mk_rules.specs.Names as spec
use Rattle.mk_rules.proofs.names.order_behind.Given as goal

-- what is left is ordered behind the node before it
abbrev pub invariant-loop-n : goal.invariant-loop-n
invariant-loop-n l = record {
  before : l.before < length l.graph;
  below : AreBelow (length l.graph) (drop l.n-index l.nodes);
  ordered : spec.ordered_behind l.first l.fn.graph l.nodes
      ≡ spec.ordered_behind l.before l.graph (drop l.n-index l.nodes);
  same : length l.graph ≡ length l.fn.graph;
}
