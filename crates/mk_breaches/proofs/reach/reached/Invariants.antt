use Rattle.std.proofs.Common.{length}
use Rattle.mk_breaches.specs.Breaches.{sources_at}
use Rattle.mk_breaches.proofs.WalkLemmas.{Walk}
use Rattle.mk_breaches.proofs.reach.reached.Given as goal

-- the walk has come so far
abbrev pub invariant-loop-next : goal.invariant-loop-next
invariant-loop-next l = Walk (sources_at l.nodes) (length l.nodes) l.n l.met.keys l.next
