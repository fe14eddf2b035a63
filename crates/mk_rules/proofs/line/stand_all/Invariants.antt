use Rattle.std.proofs.Common.{◌≡◌, length, drop}
use Rattle.mk_graph.specs.Numbers.{AreBelow}
use Rattle.mk_rules.specs.Lines as spec
use Rattle.mk_rules.proofs.line.stand_all.Given as goal

-- those that are left, behind those that stand so far
abbrev pub invariant-loop-n : goal.invariant-loop-n
invariant-loop-n l = record {
  left : AreBelow (length l.graph) (drop l.n-index l.targets);
  stand : spec.all_stand l.listed (record { nodes = l.fn.graph; targets = l.fn.stood }) l.targets
      ≡ spec.all_stand l.listed (record { nodes = l.graph; targets = l.stood })
      (drop l.n-index l.targets);
  below : AreBelow (length l.graph) l.stood;
  same : length l.graph ≡ length l.fn.graph;
}
