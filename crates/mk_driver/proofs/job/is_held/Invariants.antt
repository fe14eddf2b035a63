use Rattle.std.proofs.Common.{◌≡◌, take, nat_eq, false}
use Rattle.std.specs.List.{list_any}
use Rattle.mk_driver.proofs.job.is_held.Given as goal

-- it is none of those so far
abbrev pub invariant-loop-i : goal.invariant-loop-i
invariant-loop-i g l = list_any (nat_eq l.ticket) (take l.i l.kids.tickets) ≡ false
