use Rattle.std.proofs.Common.{◌≡◌, length}
use Rattle.mk_realworld.proofs.world.RealWorldWorld.abandon.Given as goal

-- the room stays
abbrev pub invariant-loop-kids : goal.invariant-loop-kids
invariant-loop-kids g l = l.kids.room ≡ l.initial.kids.room

abbrev pub decreases-loop-kids : goal.decreases-loop-kids
decreases-loop-kids g l = length l.kids.tickets
