use Rattle.std.proofs.Common.{◌≡◌, length, drop}
use Rattle.mk_graph.specs.Numbers.{AreBelow}
use Rattle.mk_rules.specs.Names as spec
use Rattle.mk_rules.proofs.names.mark_all.Given as goal

-- what is left is marked like all
abbrev pub invariant-loop-n : goal.invariant-loop-n
invariant-loop-n l = record {
  below : AreBelow (length l.graph) (drop l.n-index l.nodes);
  marked : spec.all_marked l.attr l.fn.graph l.nodes
      ≡ spec.all_marked l.attr l.graph (drop l.n-index l.nodes);
  same : length l.graph ≡ length l.fn.graph;
}
