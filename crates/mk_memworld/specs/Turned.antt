-- The world after the turn with which a call begins, and after a call that is refused.
use Rattle.std.specs.Prelude.{◌≡◌, ◌⊎◌, ℕ, ◌+◌, ◌<◌, List}
use Rattle.mk_world.specs.History.{state_of}
use Rattle.mk_world.specs.declared.history.History.{History}
use Rattle.mk_commands.specs.Clock.{last_number}
use Rattle.mk_memworld.specs.Endings.{numbers_left}
use Rattle.mk_memworld.specs.Going.{IsTurn}
use Rattle.mk_memworld.specs.Schedule.{after_turn, course_after, gone_on, next_child, next_taken}
use Rattle.mk_memworld.specs.Schedule.{with_ended, with_number_taken}
use Rattle.mk_memworld.specs.declared.going.Going.{Going}
use Rattle.mk_memworld.specs.declared.world.MemWorld.{MemWorld}

-- the history after the turn
abbrev pub turned : MemWorld → History
turned world = after_turn world.chronicle world.schedule

-- the child that the next number names went on, and the number is taken
pub record HasTurned (old new : MemWorld) : Type 0 where
  pub history : new.chronicle ≡ turned old
  pub course : new.schedule ≡ course_after old.chronicle old.schedule

-- nobody went on, and the number is taken
pub record HasStood (old new : MemWorld) : Type 0 where
  pub history : new.chronicle ≡ old.chronicle
  pub course : new.schedule ≡ with_number_taken old.schedule

-- this is the turn of the child that the next number names
pub record IsNext (world : MemWorld) (going : Going) : Type 0 where
  pub ticket : going.ticket ≡ next_child (state_of world.chronicle) world.schedule
  pub turn : IsTurn world.chronicle going

-- The clock has too few numbers left for the step of the child that is to go on, and for so many
-- changes behind it.
abbrev pub IsTooShort : MemWorld → ℕ → Type 0
IsTooShort world more = last_number < (state_of (turned world)).clock + more

-- How many changes `wait_any` makes behind the turn: those of the remaining steps of the child that
-- it takes in.
abbrev pub changes_to_end : MemWorld → List ℕ → ℕ
changes_to_end world tickets =
    numbers_left (state_of (turned world))
    (next_taken (course_after world.chronicle world.schedule) tickets)

-- A call that makes so many changes has failed. Where the clock is too short for these, nobody went
-- on; else the call was named as one that fails, and the child went on.
pub record HasFailed (changes : ℕ) (old new : MemWorld) : Type 0 where
  pub short : IsTooShort old changes → HasStood old new
  pub struck : (IsTooShort old changes → ⊥) → HasTurned old new

-- nothing has happened
pub record HasStayed (old new : MemWorld) : Type 0 where
  pub history : new.chronicle ≡ old.chronicle
  pub course : new.schedule ≡ old.schedule

-- the child of this turn went on
pub record HasGoneOn (going : Going) (old new : MemWorld) : Type 0 where
  pub history : new.chronicle ≡ gone_on old.chronicle going.ticket
  pub course : new.schedule
      ≡ record old.schedule { ended = with_ended old.schedule.ended going.ended }

-- the clock has too few numbers left for the step of this turn, and for so many changes behind it
abbrev pub IsTurnShort : MemWorld → Going → ℕ → Type 0
IsTurnShort world going more =
    last_number < (state_of (gone_on world.chronicle going.ticket)).clock + more

-- a call that makes so many changes has failed at this turn
pub record HasRefused (going : Going) (changes : ℕ) (old new : MemWorld) : Type 0 where
  pub short : IsTurnShort old going changes → HasStayed old new
  pub struck : (IsTurnShort old going changes → ⊥) → HasGoneOn going old new

-- nothing has happened, or the child went on and nothing else happened
abbrev pub IsOldOrTurned : MemWorld → MemWorld → Type 0
IsOldOrTurned old new = (new.chronicle ≡ old.chronicle) ⊎ (new.chronicle ≡ turned old)
