-- When the test lets a node be kept.
use Rattle.std.specs.Prelude.{◌≡◌, ℕ, List, [], None, Some, true}
use Rattle.std.specs.List.{AllByRecursion}
use Rattle.mk_clean.specs.Clean.{Plan}
use Rattle.mk_clean.specs.Kept.{until, seen_at, AreLooksAt}
use Rattle.mk_clean.specs.Turns.{Build, seen_by, MayKeep}
use Rattle.mk_filemon.specs.declared.record.Rec.{Rec}
use Rattle.mk_meta.specs.Jobs.{working}
use Rattle.mk_meta.specs.TrueHistory.{IsTrue}
use Rattle.mk_meta.specs.declared.meta.Meta.{Meta}
use Rattle.mk_oodate.specs.Fresh.{GoesByRecords, Looks, AreOfRecords}
use Rattle.mk_oodate.specs.Stale.{stale}
use Rattle.mk_oodate.specs.declared.reason.NodeMode.{NodeMode}
use Rattle.mk_oodate.specs.declared.reason.Times.{Times}
use Rattle.mk_world.specs.Calls.{when_of}
use Rattle.mk_world.specs.Deeds.{Store}
use Rattle.mk_world.specs.History.{MayAll, contents, first_state}
use Rattle.mk_world.specs.Talks.{Meaning, NextOf}
use Rattle.mk_world.specs.declared.command.Cmd.{Cmd}
use Rattle.mk_world.specs.declared.command.Task.{Task}
use Rattle.mk_world.specs.declared.command.TaskLine.{TaskLine}
use Rattle.mk_world.specs.declared.history.File.{File}
use Rattle.mk_world.specs.declared.history.Happening.{Happening}
use Rattle.mk_world.specs.declared.time.When.TheVariants as when

abbrev pub command_for : Task → TaskLine → Cmd
command_for task line = record { text = line.text; cwd = task.cwd; exports = task.exports }

-- A node has this task: its path, its lines without the empty ones, and their commands. Each line
-- is compared with that of another build.
pub record HasTask (plan : Plan) (node : ℕ) (task : Task) : Type 0 where
  pub name : (plan.node node).name ≡ task.target
  pub lines : (plan.node node).lines ≡ working task.lines
  pub command : (line : TaskLine) → plan.command line ≡ command_for task line
  pub compared : AllByRecursion (λ line. line.compared ≡ true) task.lines

-- The test went by looks behind the job of a true meta file, each at a moment of its own: these are
-- the times that it went by, of the target, of the meta file, and of the paths of its records, and
-- these the files that the looks saw.
pub record WentBy {next : NextOf} {meta : Meta} {events : List Happening} (is : IsTrue next meta events)
    (meaning : Meaning) (base : List File) (times : Times) (files : Store) : Type 0
  where
    pub later : List ℕ → List Happening
    pub lawful : (path : List ℕ) → MayAll meaning (first_state base) (until is (later path))
    pub looks : Looks
    pub saw : AreLooksAt (seen_at base is later) looks
    pub records : List Rec
    pub recorded : meta.records ≡ Some records
    pub times_are : AreOfRecords looks [] records times
    pub target : times.target ≡ when_of (seen_at base is later meta.target)
    pub meta_file : times.meta ≡ when.At (record { 0 = is.time })
    pub files_are : (path : List ℕ) → files path ≡ contents (seen_at base is later) path

-- Where the test gives no reason to make a node again, in a build that goes by records, and the
-- node's meta file tells what happened, the node may be kept.
abbrev pub NoReasonMayKeep : Type 0
NoReasonMayKeep =
    (meaning : Meaning) (base : List File) (meta : Meta) (events : List Happening)
    (is : IsTrue meaning.next meta events) (plan : Plan) (build : Build) (node : ℕ)
    (task : Task) (mode : NodeMode) (times : Times)
    → HasTask plan node task → GoesByRecords mode
    → WentBy is meaning base times (seen_by build node)
    → stale (Some meta) task mode times ≡ None → MayKeep meaning plan build node
