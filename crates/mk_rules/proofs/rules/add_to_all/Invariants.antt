use Rattle.std.proofs.Common.{◌≡◌, length, drop}
use Rattle.mk_graph.specs.Numbers.{AreBelow}
use Rattle.mk_rules.specs.Rules as spec
use Rattle.mk_rules.proofs.rules.add_to_all.Given as goal

-- what is left takes the command like all
abbrev pub invariant-loop-n : goal.invariant-loop-n
invariant-loop-n l = record {
  below : AreBelow (length l.graph) (drop l.n-index l.nodes);
  added : spec.all_commanded l.text l.fn.graph l.nodes
      ≡ spec.all_commanded l.text l.graph (drop l.n-index l.nodes);
  same : length l.graph ≡ length l.fn.graph;
}
