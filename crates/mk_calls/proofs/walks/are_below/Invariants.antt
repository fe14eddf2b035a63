use Rattle.std.proofs.Common.{drop}
use Rattle.mk_graph.specs.Numbers.{AreBelow}
use Rattle.mk_calls.proofs.walks.are_below.Given as goal

-- where the numbers that are left are below the bound, all of them are
abbrev pub invariant-loop-n : goal.invariant-loop-n
invariant-loop-n l = AreBelow l.bound (drop l.n-index l.nodes) → AreBelow l.bound l.nodes
