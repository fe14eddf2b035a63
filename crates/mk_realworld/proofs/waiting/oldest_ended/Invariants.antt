use Rattle.std.proofs.Common.{◌≡◌, length}
use Rattle.mk_realworld.proofs.waiting.oldest_ended.Given as goal

-- the children are as before
abbrev pub invariant-loop-place : goal.invariant-loop-place
invariant-loop-place g l = record {
  kids : l.kids ≡ l.fn.kids;
  end : l.place-end ≡ length l.fn.kids.tickets;
}
