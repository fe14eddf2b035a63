use Rattle.std.proofs.Common.{◌≡◌, ◌++◌, drop, map, get_or}
use Rattle.mk_plan.specs.Plans as spec
use Rattle.mk_plan.proofs.making.add_nodes.Given as goal

-- the nodes so far, and the others
abbrev pub invariant-loop-n : goal.invariant-loop-n
invariant-loop-n l =
    l.fn.nodes ++ map (spec.plan_node l.closure (λ m. get_or l.places.items m 0) l.first) l.order
    ≡ l.nodes
    ++ map (spec.plan_node l.closure (λ m. get_or l.places.items m 0) l.first) (drop l.n-index l.order)
