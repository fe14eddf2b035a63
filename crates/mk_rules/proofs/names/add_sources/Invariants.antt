use Rattle.std.proofs.Common.{◌≡◌, length, drop}
use Rattle.mk_graph.specs.Numbers.{AreBelow}
use Rattle.mk_rules.specs.Names as spec
use Rattle.mk_rules.proofs.names.add_sources.Given as goal

-- what is left is added like all
abbrev pub invariant-loop-source : goal.invariant-loop-source
invariant-loop-source l = record {
  below : AreBelow (length l.graph) (drop l.source-index l.sources);
  added : spec.sourced l.n l.fn.graph l.sources
      ≡ spec.sourced l.n l.graph (drop l.source-index l.sources);
  same : length l.graph ≡ length l.fn.graph;
}
