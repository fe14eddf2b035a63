use Rattle.std.proofs.Common.{◌≡◌, ◌++◌, drop}
use Rattle.mk_closure.specs.Members as spec
use Rattle.mk_closure.proofs.closure.Closure.add_planned.Given as goal

-- the planned nodes so far, and those of the others
abbrev pub invariant-loop-n : goal.invariant-loop-n
invariant-loop-n l =
    l.fn.planned ++ spec.planned_of l.self l.nodes
    ≡ l.planned ++ spec.planned_of l.self (drop l.n-index l.nodes)
