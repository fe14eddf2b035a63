use Rattle.std.proofs.Common.{◌≡◌, ◌++◌, drop, map, get_or}
use Rattle.mk_closure.specs.Members.{sourced_of}
use Rattle.mk_plan.proofs.making.add_sourced.Given as goal

-- the places so far, and those of what is planned for the other nodes
abbrev pub invariant-loop-n : goal.invariant-loop-n
invariant-loop-n l =
    l.fn.found ++ map (λ m. get_or l.places m 0) (sourced_of l.closure l.nodes)
    ≡ l.found ++ map (λ m. get_or l.places m 0) (sourced_of l.closure (drop l.n-index l.nodes))
