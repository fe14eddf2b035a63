-- The report of a dry run, as that of a build.
use Rattle.std.specs.Prelude.{◌≡◌, ℕ, List, [], ◌∷◌, ◌++◌, Option, Some, None, Bool, true, false}
use Rattle.std.specs.Prelude.{if◌then◌else◌}
use Rattle.mk_plan.specs.Deciding.{Rules}
use Rattle.mk_trace.specs.Runs.{IsCutRun, IsLegalRun, Tasks, line_of}
use Rattle.mk_trace.specs.declared.event.Event.{Event}
use Rattle.mk_trace.specs.declared.event.Event.TheVariants.{Kept, Refused, Shown, Start, End, Wait}
use Rattle.mk_trace.specs.declared.result.BuildResult.{BuildResult}
use Rattle.mk_trace.specs.declared.result.BuildResult.TheVariants as ended
use Rattle.mk_world.specs.declared.command.TaskLine.{TaskLine}
use Rattle.mk_dry.specs.Items.{is_started}

-- whether a dry run starts this line of a task
abbrev pub starts_line : Option TaskLine → Bool
starts_line None = false
starts_line (Some one) = is_started one

-- What stands in a build for an event: for a line that is shown and not started its start and an
-- end with status 0. That a line is shown which is started is passed over.
abbrev pub stands_for : Tasks → Event → List Event
stands_for tasks (Shown node number) =
    if starts_line (line_of (tasks node) number) then []
    else Start node number ∷ End node number 0 ∷ []
stands_for tasks (Kept node) = Kept node ∷ []
stands_for tasks (Refused node number) = Refused node number ∷ []
stands_for tasks (Start node number) = Start node number ∷ []
stands_for tasks (End node number status) = End node number status ∷ []
stands_for tasks Wait = Wait ∷ []

abbrev pub as_build : Tasks → List Event → List Event
as_build tasks [] = []
as_build tasks (event ∷ events) = stands_for tasks event ++ as_build tasks events

-- Each line that is started has `+`, and was shown directly before. The line that was shown last
-- stands first, where nothing is reported since.
abbrev pub AreAnnounced : Tasks → Option (ℕ × ℕ) → List Event → Type 0
AreAnnounced tasks shown [] = Unit {0}
AreAnnounced tasks shown (Start node number ∷ events) =
    (shown ≡ Some (node, number)) × (starts_line (line_of (tasks node) number) ≡ true)
    × AreAnnounced tasks None events
AreAnnounced tasks shown (Shown node number ∷ events) = AreAnnounced tasks (Some (node, number)) events
AreAnnounced tasks shown (Kept node ∷ events) = AreAnnounced tasks None events
AreAnnounced tasks shown (Refused node number ∷ events) = AreAnnounced tasks None events
AreAnnounced tasks shown (End node number status ∷ events) = AreAnnounced tasks None events
AreAnnounced tasks shown (Wait ∷ events) = AreAnnounced tasks None events

-- a legal run, or a cut one where the outside has ended it
abbrev pub IsRunBy : BuildResult → Rules → Tasks → List Event → Type 0
IsRunBy ended.Done rules tasks events = IsLegalRun rules tasks events
IsRunBy (ended.JobFailed n number status) rules tasks events = IsLegalRun rules tasks events
IsRunBy (ended.Expand n number what) rules tasks events = IsLegalRun rules tasks events
IsRunBy ended.World rules tasks events = IsCutRun rules tasks events
IsRunBy ended.Sink rules tasks events = IsCutRun rules tasks events
IsRunBy ended.NoMemory rules tasks events = IsCutRun rules tasks events
