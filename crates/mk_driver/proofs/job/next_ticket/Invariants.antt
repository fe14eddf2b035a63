use Rattle.std.proofs.Common.{◌+◌, ◌<◌, ◌^◌}
use Rattle.mk_driver.specs.Jobs.{from_on}
use Rattle.mk_driver.proofs.job.next_ticket.Given as goal

-- the numbers that are left suffice for the tickets from here on
abbrev pub invariant-held : goal.invariant-held
invariant-held g l = l.ticket + from_on l.ticket l.kids.tickets < 2 ^ 32

abbrev pub decreases-held : goal.decreases-held
decreases-held g l = from_on l.ticket l.kids.tickets
