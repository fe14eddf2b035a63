use Rattle.std.proofs.Common.{◌≡◌, length}
use Rattle.mk_veil.proofs.veil.give_up.Given as goal

-- the room stays
abbrev pub invariant-loop-kids : goal.invariant-loop-kids
invariant-loop-kids l = l.kids.room ≡ l.initial.kids.room

abbrev pub decreases-loop-kids : goal.decreases-loop-kids
decreases-loop-kids l = length l.kids.tickets
