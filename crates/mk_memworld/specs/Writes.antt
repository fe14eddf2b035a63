-- What `stamp` and `put` do: make writes a whole file, later than a given time.
use Rattle.std.specs.Prelude.{◌≡◌, ◌⊎◌, ℕ, ◌+◌, ◌==◌, Bool, true, false, ◌&&◌, List, [], ◌∷◌}
use Rattle.std.specs.Prelude.{Option, Some, None, max, take, if◌then◌else◌}
use Rattle.mk_world.specs.Calls.{OwnPart}
use Rattle.mk_world.specs.History.{State, state_of}
use Rattle.mk_world.specs.declared.history.Happening.{Happening}
use Rattle.mk_world.specs.declared.history.Happening.TheVariants as happening
use Rattle.mk_world.specs.declared.history.History.{History}
use Rattle.mk_commands.specs.Clock.{last_number}
use Rattle.mk_memworld.specs.Chronicle.{with_event}
use Rattle.mk_memworld.specs.Outages.{made_of, one_more}
use Rattle.mk_memworld.specs.Schedule.{course_after}
use Rattle.mk_memworld.specs.Turned.{HasStood, IsTooShort, turned}
use Rattle.mk_memworld.specs.declared.outage.CallKind.{CallKind}
use Rattle.mk_memworld.specs.declared.outage.CallKind.TheVariants as kind
use Rattle.mk_memworld.specs.declared.outage.Fail.{Fail}
use Rattle.mk_memworld.specs.declared.outage.Outages.{Outages}
use Rattle.mk_memworld.specs.declared.world.MemWorld.{MemWorld}
use Rattle.mk_memworld.specs.declared.writing.Writing.{Writing}
use Rattle.mk_memworld.specs.declared.writing.Writing.TheVariants.{Stamp, Put}

-- the kind of the call
abbrev pub kind_of : Writing → CallKind
kind_of Stamp = kind.Stamp
kind_of Put = kind.Put

-- whether a call of this kind is it
abbrev pub is_of : Writing → CallKind → Bool
is_of Stamp kind.Stamp = true
is_of Put kind.Put = true
is_of writing call = false

-- what has happened when it has written these bytes to this path
abbrev pub event_of : Writing → List ℕ → List ℕ → ℕ → Happening
event_of Stamp path bytes time = happening.Stamp path bytes time
event_of Put path bytes time = happening.Put path bytes time

-- how many bytes of the new file stand after the nth call, by the first entry that names it
abbrev pub left_by : Writing → ℕ → List Fail → Option ℕ
left_by writing nth [] = None
left_by writing nth (fail ∷ fails) =
    if is_of writing fail.call && (fail.nth == nth) then fail.left else left_by writing nth fails

-- how many stand after the next call, where it is to fail
abbrev pub next_left : Outages → Writing → Option ℕ
next_left outages writing =
    left_by writing (one_more (made_of outages.made (kind_of writing))) outages.fails

-- The time of a write: the first number that is later than all that has happened, and than `after`.
abbrev pub write_time : History → ℕ → ℕ
write_time history after = max (state_of history).clock after + 1

-- There is no such time: the clock has too few numbers left for the step of the child that is to go
-- on and for the write, or no number is later than `after`.
abbrev pub HasNoTime : MemWorld → ℕ → Type 0
HasNoTime world after = IsTooShort world 1 ⊎ (after ≡ last_number)

-- so many bytes of the new file were written, from its beginning; none without a number
abbrev pub part_written : History → Writing → List ℕ → List ℕ → ℕ → Option ℕ → History
part_written history writing path bytes time None = history
part_written history writing path bytes time (Some count) =
    with_event history (event_of writing path (take count bytes) time)

-- The child went on, and as much of the new file stands as the entry says that names the call.
pub record HasLeftPart (writing : Writing) (path bytes : List ℕ) (after : ℕ)
    (old new : MemWorld) : Type 0 where
  pub history : new.chronicle ≡ part_written (turned old) writing path bytes
      (write_time (turned old) after) (next_left old.outages writing)
  pub course : new.schedule ≡ course_after old.chronicle old.schedule

-- A write has failed. Where there is no time for it, nobody went on; else the call was named as one
-- that fails.
pub record HasFailedToWrite (writing : Writing) (path bytes : List ℕ) (after : ℕ)
    (old new : MemWorld) : Type 0 where
  pub short : HasNoTime old after → HasStood old new
  pub struck : (HasNoTime old after → ⊥) → HasLeftPart writing path bytes after old new

-- the events of a refused write: none, or that of a part of the bytes
abbrev pub OwnPartOf : Writing → List ℕ → List ℕ → State → List Happening → Type 0
OwnPartOf writing path bytes = OwnPart (λ part time. event_of writing path part time) bytes
