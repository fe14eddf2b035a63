use Rattle.std.proofs.Common.{◌≡◌, length, drop, []}
use Rattle.mk_graph.specs.Numbers.{AreBelow}
use Rattle.mk_rules.specs.Rules.{takers_among}
use Rattle.mk_rules.proofs.line.take_all.Given as goal

-- those that are left, behind the takers so far
abbrev pub invariant-loop-n : goal.invariant-loop-n
invariant-loop-n l = record {
  left : AreBelow (length l.graph) (drop l.n-index l.targets);
  takers : takers_among l.graph [] l.targets
      ≡ takers_among l.graph l.takers.keys (drop l.n-index l.targets);
  below : AreBelow (length l.graph) l.takers.keys;
}
