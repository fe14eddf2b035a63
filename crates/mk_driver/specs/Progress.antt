-- How far a build has come.
use Rattle.std.specs.Prelude.{◌≡◌, ◌≢◌, ℕ, ◌+◌, ◌<◌, ◌≤◌, nat_le, List, [], ◌∷◌, length, get_or}
use Rattle.std.specs.Prelude.{set, count_by, Option, Some, None, Bool, true, false, if◌then◌else◌}
use Rattle.mk_plan.specs.Deciding.{is_stopped, is_undecided}
use Rattle.mk_plan.specs.declared.plan.NodeState.{NodeState}
use Rattle.mk_plan.specs.declared.plan.NodeState.TheVariants.{Undecided, Open, Settled, Failed}
use Rattle.mk_plan.specs.declared.plan.PlanNode.{PlanNode}
use Rattle.mk_sched.specs.Schedule.{none_decided, schedule_of}
use Rattle.mk_world.specs.Looks.{Seen}
use Rattle.mk_world.specs.Talks.{Meaning}
use Rattle.mk_world.specs.declared.command.TaskLine.{TaskLine}
use Rattle.mk_world.specs.declared.history.History.{History}
use Rattle.mk_decision.specs.Decisions.{Work, IsBegun}
use Rattle.mk_trace.specs.Builds.{Build, Duty, free, remove, Moment, Own, rules_of, or_next}
use Rattle.mk_trace.specs.Builds.{opening, closing, is_removed, moment}
use Rattle.mk_trace.specs.Collected.{nothing_collected}
use Rattle.mk_trace.specs.Ends.{StandsBy, is_cut}
use Rattle.mk_trace.specs.Growth.{Known, SoFar, Standing}
use Rattle.mk_child.specs.Halts.{is_cut_by}
use Rattle.mk_driver.specs.Jobs.{FitsTogether}
use Rattle.mk_trace.specs.Runs as run
use Rattle.mk_driver.specs.declared.course.Course.{Course}
use Rattle.mk_trace.specs.declared.collected.Collected.{Collected}
use Rattle.mk_trace.specs.declared.event.Event.{Event}
use Rattle.mk_driver.specs.declared.job.Job.{Job}
use Rattle.mk_trace.specs.declared.result.BuildResult.{BuildResult}
use Rattle.mk_trace.specs.declared.result.Failure.{Failure}
use Rattle.mk_trace.specs.declared.result.Failure.TheVariants as failing
use Rattle.mk_child.specs.declared.halt.Halt.{Halt}

-- what a node's job has where a child of it runs
abbrev pub own_of : Job → Own
own_of job = record { ticket = job.ticket; collected = job.collected }

-- the line of a job was started under its ticket
pub record IsRunning (known : Known) (started : ℕ → ℕ) (own : ℕ → Own) (job : Job) : Type 0 where
  pub number_is : started job.node ≡ job.number
  pub own_is : own job.node ≡ own_of job
  pub task : known job.node ≡ Some job.task.lines

abbrev pub AreRunning : Known → (ℕ → ℕ) → (ℕ → Own) → List Job → Type 0
AreRunning known started own [] = Unit {0}
AreRunning known started own (job ∷ jobs) =
    IsRunning known started own job × AreRunning known started own jobs

-- nothing was seen of undecided nodes, and none has a job, but perhaps of one
abbrev pub AreFreshBut : Option ℕ → List NodeState → (ℕ → List Seen) → (ℕ → Own) → Type 0
AreFreshBut but nodes seen own =
    (node : ℕ) → but ≢ Some node → get_or nodes node Failed ≡ Undecided
    → (seen node ≡ []) × ((own node).collected ≡ nothing_collected)

-- the tasks of undecided nodes are not known
abbrev pub AreUnknown : Known → List NodeState → Type 0
AreUnknown known nodes = (node : ℕ) → get_or nodes node Failed ≡ Undecided → known node ≡ None

-- What holds between two calls, whatever has to follow: the children of these jobs run, this is the
-- first failure, and this is what make has to do next. Nothing was seen of undecided nodes, but
-- perhaps of one.
pub record Stands (known : Known) (nodes : List NodeState) (jobs : List Job)
    (failure : Option Failure) (duty : Duty) (but : Option ℕ) (build : Build) : Type 0
  where
    pub running : AreRunning known build.run.started build.own jobs
    pub failed : build.failure ≡ failure
    pub duty_is : build.duty ≡ duty
    pub fresh : AreFreshBut but nodes build.seen build.own

-- a build with these nodes, where this has to follow
pub record IsAt (known : Known) (nodes : List NodeState) (due : run.Due) (jobs : List Job)
    (failure : Option Failure) (duty : Duty) (tasks : run.Tasks) (build : Build) : Type 0
  where
    pub nodes_are : build.run.nodes ≡ nodes
    pub due_is : build.run.due ≡ due
    pub stands : Stands known nodes jobs failure duty None build

-- make has nothing to do before it goes on
abbrev pub IsGoing : Known → List NodeState → run.Due → List Job → Option Failure → Standing
IsGoing known nodes due jobs failure = IsAt known nodes due jobs failure free

-- The line of a job has failed: the node has failed, and its target is to be removed or not.
abbrev pub IsFailing : Known → List NodeState → List Job → Option Failure → Duty → Standing
IsFailing known nodes jobs failure duty = IsAt known nodes run.anything jobs failure duty

-- The lines of a job have ended well: its meta file is due, if it has one.
pub record IsClosing (work : Work) (known : Known) (nodes : List NodeState) (jobs : List Job)
    (failure : Option Failure) (n : ℕ) (lines : List TaskLine) (collected : Collected)
    (tasks : run.Tasks) (build : Build) : Type 0
  where
    pub at : IsAt known nodes run.anything jobs failure (closing work n true) tasks build
    pub task : known n ≡ Some lines
    pub collected_is : (build.own n).collected ≡ collected

-- this was seen of a node that may be decided, and its job has collected this
pub record IsSeen (known : Known) (nodes : List NodeState) (jobs : List Job)
    (failure : Option Failure) (n : ℕ) (seen : List Seen) (duty : Duty) (collected : Collected)
    (tasks : run.Tasks) (build : Build) : Type 0
  where
    pub nodes_are : build.run.nodes ≡ nodes
    pub due_is : build.run.due ≡ run.anything
    pub stands : Stands known nodes jobs failure duty (Some n) build
    pub now : build.seen n ≡ seen
    pub collected_is : (build.own n).collected ≡ collected

-- a node was looked at, and it has no job yet
abbrev pub IsLookedAt : Known → List NodeState → List Job → Option Failure → ℕ → List Seen
    → Standing
IsLookedAt known nodes jobs failure n seen =
    IsSeen known nodes jobs failure n seen free nothing_collected

-- A line of a node is the next to be started; the node has its token already.
pub record IsPoised (work : Work) (known : Known) (nodes : List NodeState) (jobs : List Job)
    (failure : Option Failure) (n : ℕ) (lines : List TaskLine) (collected : Collected) (number : ℕ)
    (tasks : run.Tasks) (build : Build) : Type 0
  where
    pub nodes_are : set build.run.nodes n Open ≡ nodes
    pub may : run.MayStart (rules_of work) tasks build.run n number build.run.due
    pub reason : number ≡ 1 → IsBegun work n (build.seen n) lines
    pub task : known n ≡ Some lines
    pub collected_is : (build.own n).collected ≡ collected
    pub stands : Stands known nodes jobs failure (opening work n number) None build

-- behind so many lines of a node: the next one is poised, or the node is settled
abbrev pub IsBehind : Work → Known → List NodeState → List Job → Option Failure → ℕ
    → List TaskLine → Collected → ℕ → Standing
IsBehind work known nodes jobs failure n lines collected done tasks build =
    (done < length lines
    → IsPoised work known nodes jobs failure n lines collected (done + 1) tasks build)
    × (length lines ≤ done
    → IsClosing work known (set nodes n Settled) jobs failure n lines collected tasks build)

-- The end of a line: it fails, or else it is the last one, or else the job is cut off by a failure
-- of another, or else the next line is poised.
abbrev pub IsEnding : Work → Known → List NodeState → List Job → Option Failure → ℕ
    → List TaskLine → Collected → ℕ → ℕ → Bool → Bool → Bool → Standing
IsEnding work known nodes jobs failure n lines collected number status true last stopped =
    IsFailing known (set nodes n Failed) jobs
    (or_next failure (Some (failing.JobFailed n number status)))
    (if is_removed work n then remove n else free)
IsEnding work known nodes jobs failure n lines collected number status false true stopped =
    IsClosing work known (set nodes n Settled) jobs failure n lines collected
IsEnding work known nodes jobs failure n lines collected number status false false true =
    IsGoing known (set nodes n Settled) run.anything jobs failure
IsEnding work known nodes jobs failure n lines collected number status false false false =
    IsPoised work known nodes jobs failure n lines collected (number + 1)

-- what the driver keeps fits together, with so many nodes that have a token and no child
abbrev pub Fits : Work → Course → List ℕ → ℕ → ℕ → Type 0
Fits work course tickets room others =
    FitsTogether (rules_of work) course.sched course.jobs.items course.failure tickets room others

-- no failure keeps lines from being started
abbrev pub IsUnstopped : Work → Course → Type 0
IsUnstopped work course = is_stopped (rules_of work) course.sched.nodes ≡ false

-- a build that has come so far, by the world, by what the driver keeps, by its first moment and by
-- standard output
abbrev pub GoingAt : Meaning → Work → Option History → Course → Moment → Option (List ℕ) → Type 0
GoingAt meaning work history course first out =
    (known : Known) × AreUnknown known course.sched.nodes
    × SoFar meaning work false first (moment history out course.events.items) course.last_shown known
    (IsGoing known course.sched.nodes run.anything course.jobs.items course.failure)

-- a node was looked at
abbrev pub SeenAt : Meaning → Work → Option History → Course → ℕ → List Seen → Moment
    → Option (List ℕ) → Type 0
SeenAt meaning work history course n seen first out =
    (known : Known) × AreUnknown known course.sched.nodes
    × SoFar meaning work false first (moment history out course.events.items) course.last_shown known
    (IsLookedAt known course.sched.nodes course.jobs.items course.failure n seen)

-- so many lines of a node have ended, and it has no child; the report has these events
abbrev pub BehindOn : Meaning → Work → Option History → Course → List Event → ℕ → List TaskLine
    → Collected → ℕ → Moment → Option (List ℕ) → Type 0
BehindOn meaning work history course events n lines collected done first out =
    (known : Known) × AreUnknown known course.sched.nodes
    × SoFar meaning work false first (moment history out events) course.last_shown known
    (IsBehind work known course.sched.nodes course.jobs.items course.failure n lines collected done)

-- the lines of a job have ended up to the one with its number, and it has no child
abbrev pub BehindAt : Meaning → Work → Option History → Course → List Event → Job → Moment
    → Option (List ℕ) → Type 0
BehindAt meaning work history course events job =
    BehindOn meaning work history course events job.node job.task.lines job.collected job.number

-- the line of a job that was taken out has ended, and this is what its job has collected
abbrev pub EndingOn : Meaning → Work → Option History → Course → Job → Collected → ℕ → Moment
    → Option (List ℕ) → Type 0
EndingOn meaning work history course job collected status first out =
    (known : Known) × AreUnknown known course.sched.nodes
    × SoFar meaning work false first (moment history out course.events.items) course.last_shown known
    (IsEnding work known course.sched.nodes course.jobs.items course.failure job.node job.task.lines
    collected job.number status (run.fails (run.line_of job.task.lines job.number) status)
    (nat_le (length job.task.lines) job.number) (is_stopped (rules_of work) course.sched.nodes))

abbrev pub EndingAt : Meaning → Work → Option History → Course → Job → ℕ → Moment
    → Option (List ℕ) → Type 0
EndingAt meaning work history course job = EndingOn meaning work history course job job.collected

-- the lines of a job have ended well, and it still has its token; the report has these events
abbrev pub OverOn : Meaning → Work → Option History → Course → List Event → Job → Moment
    → Option (List ℕ) → Type 0
OverOn meaning work history course events job first out =
    (known : Known) × AreUnknown known course.sched.nodes
    × SoFar meaning work false first (moment history out events) course.last_shown known
    (IsClosing work known (set course.sched.nodes job.node Settled) course.jobs.items course.failure
    job.node job.task.lines job.collected)

abbrev pub OverAt : Meaning → Work → Option History → Course → Job → Moment → Option (List ℕ)
    → Type 0
OverAt meaning work history course job = OverOn meaning work history course course.events.items job

-- a build that the outside has ended
abbrev pub HaltedAt : Meaning → Work → Halt → Option History → List Event → Moment
    → Option (List ℕ) → Type 0
HaltedAt meaning work halted history events first out =
    (known : Known) × (last : Option ℕ)
    × SoFar meaning work (is_cut_by halted) first (moment history out events) last known
    (λ tasks build. Unit {0})

-- a build at its end
abbrev pub EndedAt : Meaning → Work → BuildResult → Moment → Moment → Type 0
EndedAt meaning work result first now =
    (known : Known) × (last : Option ℕ)
    × SoFar meaning work (is_cut result) first now last known
    (λ tasks build. StandsBy work result build)

-- what the driver keeps before the first decision
pub record IsFirstCourse (plan : List PlanNode) (jobs : ℕ) (keep_going : Bool) (course : Course)
    : Type 0
  where
    pub sched : course.sched ≡ schedule_of plan jobs keep_going (none_decided plan)
    pub jobs_are : course.jobs.items ≡ []
    pub events : course.events.items ≡ []
    pub last : course.last_shown ≡ None
    pub failure : course.failure ≡ None

-- from any beginning and with any output
abbrev pub FromAny : (Moment → Option (List ℕ) → Type 0) → (Moment → Option (List ℕ) → Type 0)
    → Type 0
FromAny Before Then = (first : Moment) (out : Option (List ℕ)) → Before first out → Then first out

-- how many nodes are not decided
abbrev pub undecided : List NodeState → ℕ
undecided nodes = count_by is_undecided nodes
