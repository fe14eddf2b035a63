-- The nodes that a dry run shows are those that are explained.
use Rattle.std.specs.Prelude.{◌≡◌, ℕ, ◌==◌, List, [], ◌∷◌, map, IsTrue, Some, false, if◌then◌else◌}
use Rattle.mk_decision.specs.Decisions.{Work}
use Rattle.mk_dry.specs.DryRuns.{IsDryRun}
use Rattle.mk_explain.specs.Turns.{IsExplained}
use Rattle.mk_explain.specs.declared.reason.Reason.{Reason}
use Rattle.mk_flags.specs.declared.Flags.{Flags}
use Rattle.mk_plan.specs.Plans.{are_ordered}
use Rattle.mk_trace.specs.Builds.{Moment}
use Rattle.mk_trace.specs.Runs.{Tasks, line_of}
use Rattle.mk_trace.specs.declared.event.Event.{Event}
use Rattle.mk_trace.specs.declared.event.Event.TheVariants.{Kept, Refused, Shown, Start, End, Wait}
use Rattle.mk_trace.specs.declared.result.BuildResult.TheVariants as ended
use Rattle.mk_world.specs.History.{state_of}
use Rattle.mk_world.specs.Talks.{Meaning}
use Rattle.mk_world.specs.declared.command.TaskLine.{TaskLine}
use Rattle.mk_world.specs.declared.history.History.{History}
use Rattle.mk_same.specs.Judged.{AreAnswered}

-- the nodes whose first line is shown, in order
abbrev pub shown_nodes : List Event → List ℕ
shown_nodes [] = []
shown_nodes (Shown node number ∷ events) =
    if number == 1 then node ∷ shown_nodes events else shown_nodes events
shown_nodes (Kept node ∷ events) = shown_nodes events
shown_nodes (Refused node number ∷ events) = shown_nodes events
shown_nodes (Start node number ∷ events) = shown_nodes events
shown_nodes (End node number status ∷ events) = shown_nodes events
shown_nodes (Wait ∷ events) = shown_nodes events

-- no line of a task has a `+`
abbrev pub NoneAlways : Tasks → Type 0
NoneAlways tasks =
    (node number : ℕ) (line : TaskLine) → line_of (tasks node) number ≡ Some line
    → line.always ≡ false

-- these options say the same of what the commands of a node are
pub record SayTheSame (one other : Flags) : Type 0 where
  pub ignore : other.ignore ≡ one.ignore
  pub silent : other.silent ≡ one.silent

-- the same work under other options
abbrev pub under : Flags → Work → Work
under flags work = record work { flags = flags }

-- Where no line has a `+`, a dry run that ends well shows the nodes, in order, that an explanation
-- by the files before it tells of, no child running before.
abbrev pub ShownAreExplained : Type 0
ShownAreExplained =
    (meaning : Meaning) (work : Work) (flags : Flags) (first last : Moment) (old new : History)
    (reasons : List Reason) → IsTrue (are_ordered 0 work.plan) → SayTheSame flags work.flags
    → first.history ≡ Some old → last.history ≡ Some new
    → (state_of old).children ≡ []
    → (dry : IsDryRun meaning (under flags work) ended.Done first last)
    → NoneAlways dry.tasks → IsExplained (AreAnswered (state_of old).files) work reasons
    → shown_nodes last.events ≡ map (λ one. one.node) reasons
