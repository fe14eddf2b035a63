use Rattle.std.proofs.Common.{◌≡◌, drop}
use Rattle.mk_breaches.specs.Walks.{met_too}
use Rattle.mk_breaches.proofs.reach.meet.Given as goal

-- those so far, and those that are left
abbrev pub invariant-loop-n : goal.invariant-loop-n
invariant-loop-n l =
    met_too l.count l.met.keys (drop l.n-index l.numbers) ≡ met_too l.count l.initial.met.keys l.numbers
