-- A build so far, as a list of items that grows.
use Rattle.std.specs.Prelude.{◌≡◌, ℕ, List, length, Option, Some, Bool}
use Rattle.mk_world.specs.Talks.{Meaning}
use Rattle.mk_world.specs.Told.{Told}
use Rattle.mk_world.specs.declared.command.TaskLine.{TaskLine}
use Rattle.mk_decision.specs.Decisions.{Work}
use Rattle.mk_trace.specs.Builds.{Build, Moment, Makes, Prints, first_build, build_after_all}
use Rattle.mk_trace.specs.Builds.{job_of}
use Rattle.mk_trace.specs.Calls.{NoneLeft}
use Rattle.mk_trace.specs.Items.{Item, reported_all, outputs_of, Happened}
use Rattle.mk_trace.specs.Output.{Printed, printed_all, nothing_printed}
use Rattle.mk_trace.specs.Runs as run

-- the command lines of the nodes that are known so far
abbrev pub Known : Type 0
Known = ℕ → Option (List TaskLine)

abbrev pub HasTasks : run.Tasks → Known → Type 0
HasTasks tasks known =
    (node : ℕ) (lines : List TaskLine) → known node ≡ Some lines → tasks node ≡ lines

abbrev pub printed_by : Work → run.Tasks → List Item → Printed
printed_by work tasks items =
    printed_all (job_of work tasks) (outputs_of items) nothing_printed (reported_all items)

-- how a build stands, by the tasks
abbrev pub Standing : Type 1
Standing = run.Tasks → Build → Type 0

-- these items were made by the rules, were printed, and leave the build so
pub record IsMade (work : Work) (tasks : run.Tasks) (cut : Bool) (first now : Moment)
    (last : Option ℕ) (items : List Item) (Stands : Standing) : Type 0 where
  pub makes : Makes work tasks (first_build work) items
  pub printed : Prints cut first now (printed_by work tasks items).bytes
  pub ended : (printed_by work tasks items).ended ≡ length (outputs_of items)
  pub last_is : (printed_by work tasks items).last ≡ last
  pub stands : Stands tasks (build_after_all work tasks (first_build work) items)

-- A build so far: its items, whatever the tasks of the nodes are that are not yet decided.
pub record SoFar (meaning : Meaning) (work : Work) (cut : Bool) (first now : Moment)
    (last : Option ℕ) (known : Known) (Stands : Standing) : Type 0 where
  pub items : List Item
  pub reported : now.events ≡ reported_all items
  pub told : Told first.history now.history (Happened meaning items)
  pub none_left : NoneLeft items
  pub made : (tasks : run.Tasks) → HasTasks tasks known
      → IsMade work tasks cut first now last items Stands
