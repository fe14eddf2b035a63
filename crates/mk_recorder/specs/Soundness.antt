-- What the records of a command say of what it read.
use Rattle.std.specs.Prelude.{◌≡◌, ℕ, true, false, List, ◌++◌, Option, Some, None}
use Rattle.mk_strace.specs.declared.trace.Event.{Event}
use Rattle.mk_recorder.specs.Known.{holds_old}
use Rattle.mk_recorder.specs.Records.{is_read}
use Rattle.mk_recorder.specs.States.{State, run}
use Rattle.mk_recorder.specs.Tables.{Entry, known_in, all_noted}
use Rattle.mk_recorder.specs.Touches.{touched}
use Rattle.mk_recorder.specs.declared.known.Touch.TheVariants.{Read}
use Rattle.mk_recorder.specs.declared.known.Known.{Known}
use Rattle.mk_recorder.specs.declared.table.Touched.{Touched}

-- a path was read before the command changed it
abbrev pub IsFound : List Entry → List ℕ → Type 0
IsFound table path = (known_in table path).found ≡ true

-- A path that is read, and that the command has not changed before or in which old bytes may stay,
-- is found, whatever was touched before and is touched behind.
abbrev pub ReadsAreFound : Type 0
ReadsAreFound =
    (table : List Entry) (first rest : List Touched) (path : List ℕ)
    → holds_old (known_in (all_noted table first) path) ≡ true
    → IsFound (all_noted table (first ++ (touched path Read ++ rest))) path

-- where there is a state, the path is found in it
abbrev pub FoundIn : List ℕ → Option State → Type 0
FoundIn path None = Unit {0}
FoundIn path (Some state) = IsFound state.table path

-- What is found stays found, whatever the processes of a command do.
abbrev pub RunsKeepReads : Type 0
RunsKeepReads =
    (events : List Event) (state : State) (path : List ℕ)
    → IsFound state.table path → FoundIn path (run events state)

-- What is found is recorded as read, but for a directory.
abbrev pub FoundIsRecorded : Type 0
FoundIsRecorded =
    (known : Known) → known.folder ≡ false → known.found ≡ true → is_read known ≡ true
