-- The records of a command, by what its processes did.
use Rattle.std.specs.Prelude.{ℕ, Bool, true, false, ◌==◌, List, [], ◌∷◌, Option, Some, None}
use Rattle.std.specs.Prelude.{option_and_then, if◌then◌else◌}
use Rattle.mk_strace.specs.Kept.{no_texts, with_text}
use Rattle.mk_strace.specs.declared.act.Act.{Act}
use Rattle.mk_strace.specs.declared.act.Act.TheVariants as act
use Rattle.mk_strace.specs.declared.trace.Event.{Event}
use Rattle.mk_recorder.specs.Records.{records_of}
use Rattle.mk_recorder.specs.States.{State, run}
use Rattle.mk_recorder.specs.Tables.{all_noted}
use Rattle.mk_recorder.specs.declared.record.Record.{Record}
use Rattle.mk_recorder.specs.declared.table.Touched.{Touched}

abbrev pub is_run : Act → Bool
is_run (act.Runs name) = true
is_run other = false

abbrev pub says_nothing : Act → Bool
says_nothing act.Nothing = true
says_nothing other = false

-- a command begins in its directory, behind some touches, with one process
abbrev pub beginning : List ℕ → List Touched → List ℕ → State
beginning directory before process = record {
  owners = with_text no_texts process process;
  directories = with_text no_texts process directory;
  early = no_texts;
  running = 1;
  table = all_noted [] before;
}

-- the records, if no process runs in the end
abbrev pub records_at : State → Option (List Record)
records_at state = if state.running == 0 then Some (records_of state.table) else None

abbrev pub records_behind : List Event → State → Option (List Record)
records_behind events state = option_and_then records_at (run events state)

abbrev pub judged_from : List ℕ → List Touched → Event → List Event → Option (List Record)
judged_from directory before first events =
    if is_run first.act then records_behind events (beginning directory before first.process)
    else None

-- The records of a command that begins in a directory, behind some touches. Its first event that
-- says something is the program that is run (its call may go on behind lines of others, and says
-- nothing where it begins); each process is begun before or by a call that has not ended, it is
-- known where all names lead, and in the end no process runs.
abbrev pub judged : List ℕ → List Touched → List Event → Option (List Record)
judged directory before [] = None
judged directory before (event ∷ events) =
    if says_nothing event.act then judged directory before events
    else judged_from directory before event (event ∷ events)
