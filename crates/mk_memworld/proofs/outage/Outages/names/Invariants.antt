use Rattle.std.proofs.Common.{◌↔◌, drop}
use Rattle.mk_memworld.specs.Outages.{IsNamed}
use Rattle.mk_memworld.proofs.outage.Outages.names.Given as goal

-- an entry names the call exactly where one of the rest does
abbrev pub invariant-loop-fail : goal.invariant-loop-fail
invariant-loop-fail l =
    IsNamed l.kind l.nth (drop l.fail-index l.fail-items) ↔ IsNamed l.kind l.nth l.fail-items
