use Rattle.std.proofs.Common.{◌≡◌, ◌++◌, drop}
use Rattle.mk_breaches.specs.Breaches.{breaches_from}
use Rattle.mk_breaches.proofs.breach.push_nodes.Given as goal

-- what the nodes so far breach, and what those that are left do
abbrev pub invariant-loop-n : goal.invariant-loop-n
invariant-loop-n l =
    l.all ++ breaches_from l.nodes l.n (drop l.n l.nodes) ≡ l.initial.all ++ breaches_from l.nodes 0 l.nodes
