use Rattle.std.proofs.Common.{◌≡◌}
use Rattle.mk_realworld.proofs.waiting.next_ended.Given as goal

-- the children are as before
abbrev pub invariant-loop : goal.invariant-loop
invariant-loop g l = l.kids ≡ l.fn.kids
