-- The turn of a child, as it is found before the child goes on.
use Rattle.std.specs.Prelude.{◌≡◌}
use Rattle.mk_world.specs.History.{state_of}
use Rattle.mk_world.specs.declared.history.History.{History}
use Rattle.mk_memworld.specs.Schedule.{deed_for, gone_on, newly_ended}
use Rattle.mk_memworld.specs.declared.going.Going.{Going}

-- the step is the next one of the child that goes on, and it is told whether the child has come to
-- its end after it
pub record IsTurn (history : History) (going : Going) : Type 0 where
  pub deed : going.deed ≡ deed_for (state_of history) going.ticket
  pub ended : going.ended
      ≡ newly_ended (state_of (gone_on history going.ticket)) going.ticket
