use Rattle.std.proofs.Common.{◌≡◌, length, drop}
use Rattle.mk_graph.specs.Numbers.{AreBelow}
use Rattle.mk_rules.specs.Rules as spec
use Rattle.mk_rules.proofs.rules.first_main.Given as goal

-- none so far may be a main target
abbrev pub invariant-loop-n : goal.invariant-loop-n
invariant-loop-n l = record {
  below : AreBelow (length l.graph) (drop l.n-index l.nodes);
  left : spec.first_main l.graph l.nodes ≡ spec.first_main l.graph (drop l.n-index l.nodes);
}
