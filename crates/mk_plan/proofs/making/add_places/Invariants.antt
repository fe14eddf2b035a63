use Rattle.std.proofs.Common.{◌≡◌, ◌++◌, drop, map, get_or}
use Rattle.mk_closure.specs.Members.{planned_of}
use Rattle.mk_plan.proofs.making.add_places.Given as goal

-- the places so far, and those of the other nodes
abbrev pub invariant-loop-n : goal.invariant-loop-n
invariant-loop-n l =
    l.fn.found ++ map (λ m. get_or l.places m 0) (planned_of l.closure l.nodes)
    ≡ l.found ++ map (λ m. get_or l.places m 0) (planned_of l.closure (drop l.n-index l.nodes))
