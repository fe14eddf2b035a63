use Rattle.std.proofs.Common.{◌≡◌, drop}
use Rattle.mk_memworld.specs.Writes.{left_by}
use Rattle.mk_memworld.proofs.outage.Outages.left_by.Given as goal

-- the first entry that names the call is the first one of the rest that does
abbrev pub invariant-loop-fail : goal.invariant-loop-fail
invariant-loop-fail l =
    left_by l.writing l.nth (drop l.fail-index l.fail-items) ≡ left_by l.writing l.nth l.fail-items
