use Rattle.std.proofs.Common.{◌≡◌, ◌++◌, drop}
use Rattle.mk_closure.specs.Members as spec
use Rattle.mk_closure.proofs.closure.Closure.add_sourced.Given as goal

-- what is planned for the nodes so far, and for the others
abbrev pub invariant-loop-n : goal.invariant-loop-n
invariant-loop-n l =
    l.fn.planned ++ spec.sourced_of l.self l.nodes
    ≡ l.planned ++ spec.sourced_of l.self (drop l.n-index l.nodes)
