-- What a job leaves in its meta file.
use Rattle.std.specs.Prelude.{◌≡◌, ℕ, ◌+◌, ◌<◌, ◌^◌, Bool, true, false, not, List, [], ◌∷◌, ◌++◌}
use Rattle.std.specs.Prelude.{length, map, filter, Option, if◌then◌else◌}
use Rattle.std.specs.List.{AllByRecursion}
use Rattle.std.specs.Option.{option_map}
use Rattle.mk_filemon.specs.declared.record.Rec.{Rec}
use Rattle.mk_world.specs.declared.command.Cmd.{Cmd}
use Rattle.mk_world.specs.declared.command.Task.{Task}
use Rattle.mk_world.specs.declared.command.TaskLine.{TaskLine}
use Rattle.mk_world.specs.declared.step.Op.{Op}
use Rattle.mk_world.specs.declared.time.Time.{Time}
use Rattle.mk_meta.specs.Lawful.{IsLawful, is_command, is_export_name, are_sorted}
use Rattle.mk_meta.specs.declared.meta.Meta.{Meta}

abbrev pub is_empty : List ℕ → Bool
is_empty [] = true
is_empty (byte ∷ text) = false

-- the lines that a child is started for: an empty one needs none
abbrev pub working : List TaskLine → List TaskLine
working lines = filter (λ line. not (is_empty line.text)) lines

abbrev pub numbered : ℕ → List Op → List Rec
numbered number ops = map (λ one. record { line = number; op = one }) ops

-- The records of lines from this number on: each line has its number, an empty one too, and the
-- children of the others recorded these operations, one list each.
abbrev pub records_from : ℕ → List TaskLine → List (List Op) → List Rec
records_from number [] children = []
records_from number (line ∷ lines) [] = []
records_from number (line ∷ lines) (ops ∷ children) =
    if is_empty line.text then records_from (number + 1) lines (ops ∷ children)
    else numbered number ops ++ records_from (number + 1) lines children

-- The records of a job: lines count from 1.
abbrev pub records_of_job : List TaskLine → List (List Op) → List Rec
records_of_job lines children = records_from 1 lines children

-- of a line, its text and whether it is ignored are kept
abbrev pub kept_line : TaskLine → TaskLine
kept_line line = record {
  text = line.text;
  ignore = line.ignore;
  silent = false;
  always = false;
  compared = false;
}

-- The value of the meta file of a job: when it began, its task, what its children printed, and what
-- they recorded, where each did.
abbrev pub meta_of_job : Time → Task → List ℕ → Option (List (List Op)) → Meta
meta_of_job stamp task output recorded = record {
  stamp = stamp;
  exports = task.exports;
  lines = map kept_line task.lines;
  cwd = task.cwd;
  target = task.target;
  output = output;
  records = option_map (records_of_job task.lines) recorded;
}

abbrev pub command_in : Meta → TaskLine → Cmd
command_in meta line =
    record { text = line.text; cwd = meta.cwd; exports = meta.exports }

-- The commands that the job of a meta file ran, in order.
abbrev pub commands_of : Meta → List Cmd
commands_of meta = map (command_in meta) (working meta.lines)

-- A task that a meta file can tell of: no line begins with a byte that is taken off a command line,
-- and the exported variables have names and are sorted.
pub record IsTold (task : Task) : Type 0 where
  pub commands : AllByRecursion (λ line. is_command line.text ≡ true) task.lines
  pub few : length task.lines < 2 ^ 32
  pub names : AllByRecursion (λ pair. is_export_name pair.name ≡ true) task.exports
  pub sorted : are_sorted task.exports ≡ true

-- Each job of such a task has a meta file.
abbrev pub JobsAreLawful : Type 0
JobsAreLawful =
    (stamp : Time) (task : Task) (output : List ℕ) (recorded : Option (List (List Op)))
    → IsTold task → stamp.0 < 2 ^ 64 → length output < 2 ^ 64
    → IsLawful (meta_of_job stamp task output recorded)
