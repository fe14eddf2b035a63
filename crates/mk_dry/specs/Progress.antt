-- How far a dry run has come.
use Rattle.std.specs.Prelude.{◌≡◌, ℕ, ◌+◌, ◌<◌, ◌≤◌, List, [], length, get_or, set, slice_get}
use Rattle.std.specs.Prelude.{Option, Some, None, Bool, true, false, ◌&&◌}
use Rattle.std.specs.List.{list_any}
use Rattle.mk_decision.specs.Decisions.{Work, IsBegun}
use Rattle.mk_decision.specs.Makers.{work_on}
use Rattle.mk_flags.specs.declared.Flags.{Flags}
use Rattle.mk_graph.specs.declared.Made.{Made}
use Rattle.mk_graph.specs.Walks.{preds_of}
use Rattle.mk_plan.specs.Deciding.{Rules, all_settled, is_failed, is_stopped, is_undecided}
use Rattle.mk_plan.specs.Deciding.{open_jobs}
use Rattle.mk_plan.specs.declared.plan.NodeState.{NodeState}
use Rattle.mk_plan.specs.declared.plan.NodeState.TheVariants.{Undecided, Open, Settled, Failed}
use Rattle.mk_child.specs.Halts.{is_cut_by}
use Rattle.mk_child.specs.declared.halt.Halt.{Halt}
use Rattle.mk_plan.specs.declared.plan.PlanNode.{PlanNode}
use Rattle.mk_sched.specs.Schedule.{none_decided, predecessors}
use Rattle.mk_trace.specs.Builds.{Moment, Prints, moment, or_next}
use Rattle.mk_trace.specs.Ends.{is_cut}
use Rattle.mk_trace.specs.Growth.{Known, HasTasks}
use Rattle.mk_trace.specs.Items.{Happened}
use Rattle.mk_trace.specs.RunLaws.{StandBehind}
use Rattle.mk_trace.specs.Runs as run
use Rattle.mk_trace.specs.declared.event.Event.{Event}
use Rattle.mk_trace.specs.declared.result.BuildResult.{BuildResult}
use Rattle.mk_trace.specs.declared.result.Failure.{Failure}
use Rattle.mk_trace.specs.declared.result.Failure.TheVariants as failing
use Rattle.mk_world.specs.Looks.{Seen}
use Rattle.mk_world.specs.Talks.{Meaning}
use Rattle.mk_world.specs.Told.{Told}
use Rattle.mk_world.specs.declared.command.TaskLine.{TaskLine}
use Rattle.mk_world.specs.declared.history.History.{History}
use Rattle.mk_dry.specs.Items.{DryItem, reported_all, in_build_all, dry_tasks, printed_all}
use Rattle.mk_dry.specs.Runs.{Dry, rules_of, first_dry, dry_after_all, with_shown, Makes}
use Rattle.mk_dry.specs.DryRuns.{IsOver, StandsBy}
use Rattle.mk_dry.specs.declared.course.Course.{Course}

-- how a dry run stands, by the tasks
abbrev pub Standing : Type 1
Standing = run.Tasks → Dry → Type 0

-- these items were made by the rules, were printed, and leave the dry run so
pub record IsMade (work : Work) (tasks : run.Tasks) (cut : Bool) (first now : Moment)
    (items : List DryItem) (Stands : Standing) : Type 0 where
  pub makes : Makes (rules_of work) tasks (first_dry work) items
  pub printed : Prints cut first now (printed_all tasks items)
  pub stands : Stands tasks (dry_after_all (rules_of work) tasks (first_dry work) items)

-- A dry run so far: its items, whatever the tasks of the nodes are that are not yet decided.
pub record SoFar (meaning : Meaning) (work : Work) (cut : Bool) (first now : Moment)
    (known : Known) (Stands : Standing) : Type 0 where
  pub items : List DryItem
  pub reported : now.events ≡ reported_all items
  pub told : Told first.history now.history (Happened meaning (in_build_all items))
  pub made : (tasks : run.Tasks) → HasTasks tasks known
      → IsMade work tasks cut first now items Stands

-- Between two nodes: these stand so, this was seen of the next one, by this work it is decided, and
-- this is the first failure.
pub record IsAt (nodes : List NodeState) (seen : List Seen) (work : Work)
    (failure : Option Failure) (tasks : run.Tasks) (dry : Dry) : Type 0 where
  pub nodes_are : dry.run.nodes ≡ nodes
  pub due_is : dry.run.due ≡ run.anything
  pub seen_is : dry.seen ≡ seen
  pub work_is : dry.work ≡ work
  pub failed : dry.failure ≡ failure
  pub free : dry.announced ≡ None

-- What stands round the lines of a node: the dry run's work and its first moment, the tasks that
-- are known, the node with its lines, how the nodes stand while it is open, the work behind its
-- first line, and the first failure.
pub record Scene : Type 0 where
  pub start : Work
  pub first : Moment
  pub known : Known
  pub node : ℕ
  pub lines : List TaskLine
  pub opened : List NodeState
  pub work : Work
  pub failure : Option Failure

-- the node is the one that is open, and no failure stops the run
pub record IsOpenScene (scene : Scene) : Type 0 where
  pub task : scene.known scene.node ≡ Some scene.lines
  pub open_now : slice_get scene.opened scene.node ≡ Some Open
  pub again : set scene.opened scene.node Open ≡ scene.opened
  pub one_open : open_jobs scene.opened ≡ 1
  pub unstopped : is_stopped (rules_of scene.start) scene.opened ≡ false

-- A line is the next to be shown.
pub record IsPoised (scene : Scene) (number : ℕ) (tasks : run.Tasks) (dry : Dry) : Type 0 where
  pub nodes_are : set dry.run.nodes scene.node Open ≡ scene.opened
  pub may : run.MayStart (rules_of scene.start) (dry_tasks tasks) dry.run scene.node number dry.run.due
  pub reason : number ≡ 1 → IsBegun dry.work scene.node dry.seen scene.lines
  pub work_is : with_shown dry.work scene.node number ≡ scene.work
  pub failed : dry.failure ≡ scene.failure
  pub free : dry.announced ≡ None

-- behind so many lines: the next one is poised, or the node is settled
abbrev pub IsBehind : Scene → ℕ → Standing
IsBehind scene done tasks dry =
    (done < length scene.lines → IsPoised scene (done + 1) tasks dry)
    × (length scene.lines ≤ done
    → IsAt (set scene.opened scene.node Settled) [] scene.work scene.failure tasks dry)

-- behind the end of a line: where it failed, the node has failed
abbrev pub IsEnded : Scene → ℕ → ℕ → Bool → Standing
IsEnded scene number status true =
    IsAt (set scene.opened scene.node Failed) [] scene.work
    (or_next scene.failure (Some (failing.JobFailed scene.node number status)))
IsEnded scene number status false = IsBehind scene number

-- A line was announced.
pub record IsAnnounced (scene : Scene) (number : ℕ) (tasks : run.Tasks) (dry : Dry) : Type 0 where
  pub nodes_are : set dry.run.nodes scene.node Open ≡ scene.opened
  pub may : run.MayStart (rules_of scene.start) (dry_tasks tasks) dry.run scene.node number dry.run.due
  pub seen_is : dry.seen ≡ []
  pub work_is : dry.work ≡ scene.work
  pub failed : dry.failure ≡ scene.failure
  pub announced : dry.announced ≡ Some (scene.node, number)

-- Its child runs, and this has to follow.
pub record IsRunning (scene : Scene) (number ticket : ℕ) (due : run.Due) (tasks : run.Tasks)
    (dry : Dry) : Type 0 where
  pub nodes_are : dry.run.nodes ≡ scene.opened
  pub started : dry.run.started scene.node ≡ number
  pub due_is : dry.run.due ≡ due
  pub seen_is : dry.seen ≡ []
  pub work_is : dry.work ≡ scene.work
  pub ticket_is : dry.ticket ≡ ticket
  pub failed : dry.failure ≡ scene.failure
  pub free : dry.announced ≡ None

-- a dry run in a scene, by what has happened, what was printed and what is reported
abbrev pub InScene : Meaning → Scene → Standing → Option History → Option (List ℕ) → List Event
    → Type 0
InScene meaning scene Stands history out events =
    SoFar meaning scene.start false scene.first (moment history out events) scene.known Stands

-- a dry run that the outside has ended
abbrev pub HaltedAt : Meaning → Work → Halt → Moment → Moment → Type 0
HaltedAt meaning start halt first now =
    (known : Known) × SoFar meaning start (is_cut_by halt) first now known (λ tasks dry. Unit {0})

abbrev pub HaltedIn : Meaning → Scene → Halt → Option History → Option (List ℕ) → List Event
    → Type 0
HaltedIn meaning scene halt history out events =
    HaltedAt meaning scene.start halt scene.first (moment history out events)

-- a dry run at its end
abbrev pub EndedAt : Meaning → Work → BuildResult → Moment → Moment → Type 0
EndedAt meaning start result first now =
    (known : Known)
    × SoFar meaning start (is_cut result) first now known
    (λ tasks dry. StandsBy (rules_of start) result dry)

abbrev pub is_there : Option Failure → Bool
is_there None = false
is_there (Some failure) = true

-- how a node that was decided stands: settled, or failed with a failure
abbrev pub HasCome : NodeState → Option Failure → Option Failure → Type 0
HasCome Undecided old new = ⊥
HasCome Open old new = ⊥
HasCome Settled old new = new ≡ old
HasCome Failed old new = is_there new ≡ true

-- a node is undecided, and all its predecessors are settled
abbrev pub is_ready : Rules → List NodeState → ℕ → Bool
is_ready rules nodes node =
    is_undecided (get_or nodes node Failed) && all_settled nodes (preds_of rules.before node)

-- The nodes up to a place were gone through: none of them is ready, and those from there on are
-- undecided.
pub record IsGoneThrough (rules : Rules) (nodes : List NodeState) (failure : Option Failure)
    (place : ℕ) : Type 0 where
  pub long : length nodes ≡ length rules.before
  pub one_job : rules.jobs ≡ 1
  pub ordered : StandBehind rules.before
  pub none_open : open_jobs nodes ≡ 0
  pub fresh : (node : ℕ) → place ≤ node → node < length nodes → get_or nodes node Failed ≡ Undecided
  pub behind : (node : ℕ) → node < place → is_ready rules nodes node ≡ false
  pub failed : list_any is_failed nodes ≡ is_there failure

-- the work by which the next nodes are decided
abbrev pub work_in : Course → Made → Flags → Work
work_in course made flags = work_on course.plan made flags

-- the tasks of the nodes from a place on are not known
abbrev pub AreUnknownFrom : ℕ → Known → Type 0
AreUnknownFrom place known = (node : ℕ) → place ≤ node → known node ≡ None

-- The rules of a dry run that began with this work are those of the plan as it now is.
abbrev pub GoingAt : Meaning → Work → Made → Flags → Option History → Course → ℕ → Moment
    → Option (List ℕ) → Type 0
GoingAt meaning start made flags history course place first out =
    (rules_of start ≡ rules_of (work_in course made flags))
    × (known : Known) × AreUnknownFrom place known
    × SoFar meaning start false first (moment history out course.events.items) known
    (IsAt course.nodes.items [] (work_in course made flags) course.failure)

-- a node was looked at
abbrev pub SeenAt : Meaning → Work → Made → Flags → Option History → Course → ℕ → List Seen → Moment
    → Option (List ℕ) → Type 0
SeenAt meaning start made flags history course place seen first out =
    (rules_of start ≡ rules_of (work_in course made flags))
    × (known : Known) × AreUnknownFrom place known
    × SoFar meaning start false first (moment history out course.events.items) known
    (IsAt course.nodes.items seen (work_in course made flags) course.failure)

-- a node was decided, and stands so, which the driver does not yet keep
abbrev pub IsAfter : Meaning → Work → Made → Flags → Option History → Course → ℕ → NodeState
    → Moment
    → Option (List ℕ) → Type 0
IsAfter meaning start made flags history course place stands first out =
    (rules_of start ≡ rules_of (work_in course made flags))
    × (known : Known) × AreUnknownFrom (place + 1) known
    × SoFar meaning start false first (moment history out course.events.items) known
    (IsAt (set course.nodes.items place stands) [] (work_in course made flags) course.failure)

-- a dry run that is over
abbrev pub OverAt : Meaning → Work → Option History → Course → Moment → Option (List ℕ) → Type 0
OverAt meaning start history course first out =
    (known : Known)
    × SoFar meaning start false first (moment history out course.events.items) known
    (λ tasks dry. IsOver (rules_of start) course.failure dry)

-- what is kept before the first decision
pub record IsFirstCourse (plan : List PlanNode) (course : Course) : Type 0 where
  pub plan_is : course.plan ≡ plan
  pub nodes_are : course.nodes.items ≡ none_decided plan
  pub ordered : StandBehind (predecessors plan)
  pub events : course.events.items ≡ []
  pub failure : course.failure ≡ None
