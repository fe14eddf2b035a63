use Rattle.std.proofs.Common.{◌≡◌, length, drop}
use Rattle.mk_graph.specs.Numbers.{AreBelow}
use Rattle.mk_rules.specs.Lines as spec
use Rattle.mk_rules.proofs.line.names_at.Given as goal

-- those that are left, behind the names so far
abbrev pub invariant-loop-n : goal.invariant-loop-n
invariant-loop-n l = record {
  left : AreBelow (length l.graph) (drop l.n-index l.nodes);
  names : spec.with_names l.fn.names l.graph l.nodes
      ≡ spec.with_names l.names l.graph (drop l.n-index l.nodes);
}
