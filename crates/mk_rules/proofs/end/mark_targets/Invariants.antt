use Rattle.std.proofs.Common.{◌≡◌, ◌++◌, length, map, take, drop}
use Rattle.mk_rules.specs.Ends.{node_everywhere}
use Rattle.mk_rules.proofs.end.mark_targets.Given as goal

-- the nodes so far have the marks, and the others stand as they were
abbrev pub invariant-loop-n : goal.invariant-loop-n
invariant-loop-n l = record {
  so_far : l.graph ≡ map (node_everywhere l.marks) (take l.n l.fn.graph) ++ drop l.n l.fn.graph;
  same : length l.graph ≡ length l.fn.graph;
}
