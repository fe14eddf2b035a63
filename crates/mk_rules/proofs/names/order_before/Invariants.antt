use Rattle.std.proofs.Common.{◌≡◌, length, drop}
use Rattle.mk_graph.specs.Numbers.{AreBelow}
use Rattle.mk_rules.specs.Names as spec
use Rattle.mk_rules.proofs.names.order_before.Given as goal

-- what is left is ordered like all
abbrev pub invariant-loop-first : goal.invariant-loop-first
invariant-loop-first l = record {
  below : AreBelow (length l.graph) (drop l.first-index l.nodes);
  ordered : spec.ordered_before l.n l.fn.graph l.nodes
      ≡ spec.ordered_before l.n l.graph (drop l.first-index l.nodes);
  same : length l.graph ≡ length l.fn.graph;
}
