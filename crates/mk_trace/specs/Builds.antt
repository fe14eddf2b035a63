-- What make has to do in a build: why each node is kept, started or refused.
use Rattle.std.specs.Prelude.{◌≡◌, ℕ, ◌<◌, ◌^◌, ◌==◌, nat_le, nat_lt, List, [], ◌∷◌, ◌++◌, length}
use Rattle.std.specs.Prelude.{Option, Some, None, Bool, true, false, not, ◌&&◌, if◌then◌else◌}
use Rattle.mk_export.specs.Lists.{AreExports}
use Rattle.mk_meta.specs.Texts as texts
use Rattle.mk_meta.specs.Texts.{meta_text}
use Rattle.mk_meta.specs.TrueHistory.{meta_path}
use Rattle.mk_plan.specs.Deciding.{Rules}
use Rattle.mk_plan.specs.Plans.{node_at}
use Rattle.mk_sched.specs.Schedule.{predecessors}
use Rattle.mk_world.specs.Talks.{Meaning}
use Rattle.mk_world.specs.Looks.{Seen, dated, read}
use Rattle.mk_world.specs.Sinks.{Begins, Gains, GainsPart}
use Rattle.mk_world.specs.Told.{Told}
use Rattle.mk_world.specs.declared.command.Cmd.{Cmd}
use Rattle.mk_world.specs.declared.command.TaskLine.{TaskLine}
use Rattle.mk_world.specs.declared.history.History.{History}
use Rattle.mk_world.specs.declared.time.When.{When}
use Rattle.mk_world.specs.declared.time.When.TheVariants.{Missing}
use Rattle.mk_decision.specs.Decisions.{Work, IsKept, IsBegun, IsRefused}
use Rattle.mk_decision.specs.Makers.{jobs_of}
use Rattle.mk_decision.specs.Newest.{begun_whens, raised, raised_all}
use Rattle.mk_trace.specs.Calls.{GivesUpLast}
use Rattle.mk_trace.specs.Collected.{IsCountable, nothing_collected, begun, with_end, has_meta}
use Rattle.mk_trace.specs.Collected.{meta_of}
use Rattle.mk_trace.specs.Items.{Change, gone, head, whole, cut_head, cut_whole}
use Rattle.mk_trace.specs.Items.{Item, looks, keeps, refuses, starts, passes, waits, steps, ends}
use Rattle.mk_trace.specs.Items.{changes, leaves, reported, reported_all, happened_all, outputs_of}
use Rattle.mk_trace.specs.Items.{Happened}
use Rattle.mk_trace.specs.Output.{Job, output}
use Rattle.mk_trace.specs.Runs as run
use Rattle.mk_trace.specs.Settled.{EachSettled}
use Rattle.mk_trace.specs.declared.collected.Collected.{Collected}
use Rattle.mk_trace.specs.declared.event.Event.{Event}
use Rattle.mk_trace.specs.declared.event.Event.TheVariants.{End, Refused}
use Rattle.mk_trace.specs.declared.result.Failure.{Failure}
use Rattle.mk_trace.specs.declared.result.Failure.TheVariants.{JobFailed, Expand}

-- the rules of its runs
abbrev pub rules_of : Work → Rules
rules_of work = record {
  before = predecessors work.plan;
  jobs = jobs_of work;
  keep_going = work.flags.keep_going;
}

-- what the open job of a node has: the ticket of its child, and what it has collected
pub record Own : Type 0 where
  pub ticket : ℕ
  pub collected : Collected

-- What make has to do before anything else.
pub data Duty : Type 0 where
  free : Duty
  -- the target of this failed node is removed
  remove : (node : ℕ) → Duty
  -- the first line of this node is started, for whose job a head was written
  begin : (node : ℕ) → Duty
  -- the job of this node is over, and its target's time is asked
  date : (node : ℕ) → Duty
  -- its meta file is written
  close : (node : ℕ) → Duty
  -- a write of make was refused: nothing more is done
  stop : Duty

-- How a build stands: its run, what was seen to decide each node, what each node's open job has,
-- the first failure, and what make has to do next.
pub record Build : Type 0 where
  pub run : run.State
  pub seen : ℕ → List Seen
  pub own : ℕ → Own
  pub failure : Option Failure
  pub duty : Duty

abbrev pub first_build : Work → Build
first_build work = record {
  run = run.first_state (rules_of work);
  seen = λ node. [];
  own = λ node. record { ticket = 0; collected = nothing_collected };
  failure = None;
  duty = free;
}

-- With `.DELETE_ON_ERROR` the target of a failed job is removed, unless it is phony or precious.
abbrev pub is_removed : Work → ℕ → Bool
is_removed work node =
    work.mode.delete_on_error && (not (node_at work.plan node).marks.phony
    && not (node_at work.plan node).marks.precious)

abbrev pub seen_after : (ℕ → List Seen) → Item → ℕ → List Seen
seen_after seen (looks node look) =
    λ one. if one == node then seen one ++ look ∷ [] else seen one
seen_after seen (keeps node) = seen
seen_after seen (refuses node number what) = seen
seen_after seen (starts node number ticket owner cmd) = seen
seen_after seen (passes node number) = seen
seen_after seen waits = seen
seen_after seen (steps ticket owner deed time) = seen
seen_after seen (ends node number owner ended) = seen
seen_after seen (changes node change) = seen
seen_after seen (leaves ticket owner) = seen

-- a node's job has this ticket now, or has collected this
abbrev pub with_ticket : (ℕ → Own) → ℕ → ℕ → ℕ → Own
with_ticket own node ticket =
    λ one. if one == node then record { ticket = ticket; collected = (own one).collected } else own one

abbrev pub with_collected : (ℕ → Own) → ℕ → Collected → ℕ → Own
with_collected own node collected =
    λ one. if one == node then record { ticket = (own one).ticket; collected = collected } else own one

-- a head opens a job, whose stamp is its time
abbrev pub own_changed : (ℕ → Own) → ℕ → Change → ℕ → Own
own_changed own node (head path bytes time) = with_collected own node (begun time)
own_changed own node (gone path time) = own
own_changed own node (whole path bytes time) = own
own_changed own node (cut_head path part time) = own
own_changed own node (cut_whole path part time) = own

abbrev pub own_after : (ℕ → Own) → Item → ℕ → Own
own_after own (looks node seen) = own
own_after own (keeps node) = own
own_after own (refuses node number what) = own
own_after own (starts node number ticket owner cmd) = with_ticket own node ticket
own_after own (passes node number) = own
own_after own waits = own
own_after own (steps ticket owner deed time) = own
own_after own (ends node number owner ended) =
    with_collected own node (with_end (own node).collected number ended)
own_after own (changes node change) = own_changed own node change
own_after own (leaves ticket owner) = own

-- the first of two, where it is there
abbrev pub or_next : Option Failure → Option Failure → Option Failure
or_next None next = next
or_next (Some failure) next = Some failure

-- the first failure: a refused line, or the end of a line that fails
abbrev pub failure_after : run.Tasks → Option Failure → Item → Option Failure
failure_after tasks failure (refuses node number what) =
    or_next failure (Some (Expand node number what))
failure_after tasks failure (ends node number owner ended) =
    if run.fails (run.line_of (tasks node) number) ended.status
    then or_next failure (Some (JobFailed node number ended.status)) else failure
failure_after tasks failure (looks node seen) = failure
failure_after tasks failure (keeps node) = failure
failure_after tasks failure (starts node number ticket owner cmd) = failure
failure_after tasks failure (passes node number) = failure
failure_after tasks failure waits = failure
failure_after tasks failure (steps ticket owner deed time) = failure
failure_after tasks failure (changes node change) = failure
failure_after tasks failure (leaves ticket owner) = failure

-- Before the first line of a node in meta mode its job was opened.
abbrev pub opening : Work → ℕ → ℕ → Duty
opening work node number = if (number == 1) && has_meta work node then begin node else free

-- behind the last line of a job in meta mode its meta file is due
abbrev pub closing : Work → ℕ → Bool → Duty
closing work node over = if over && has_meta work node then date node else free

-- behind the end of a line: where it has failed, its node's target may have to be removed
abbrev pub behind_end : Work → ℕ → Bool → Bool → Duty
behind_end work node true over = if is_removed work node then remove node else free
behind_end work node false over = closing work node over

abbrev pub behind_look : Duty → Duty
behind_look (date node) = close node
behind_look free = free
behind_look (remove node) = remove node
behind_look (begin node) = begin node
behind_look (close node) = close node
behind_look stop = stop

abbrev pub behind_change : ℕ → Change → Duty
behind_change node (gone path time) = free
behind_change node (head path bytes time) = begin node
behind_change node (whole path bytes time) = free
behind_change node (cut_head path part time) = stop
behind_change node (cut_whole path part time) = stop

abbrev pub duty_after : Work → run.Tasks → Duty → Item → Duty
duty_after work tasks duty (looks node seen) = behind_look duty
duty_after work tasks duty (keeps node) = duty
duty_after work tasks duty (refuses node number what) = duty
duty_after work tasks duty (starts node number ticket owner cmd) = free
duty_after work tasks duty (passes node number) =
    closing work node (nat_le (length (tasks node)) number)
duty_after work tasks duty waits = duty
duty_after work tasks duty (steps ticket owner deed time) = duty
duty_after work tasks duty (ends node number owner ended) =
    behind_end work node (run.fails (run.line_of (tasks node) number) ended.status)
    (nat_le (length (tasks node)) number)
duty_after work tasks duty (changes node change) = behind_change node change
duty_after work tasks duty (leaves ticket owner) = duty

abbrev pub build_after : Work → run.Tasks → Build → Item → Build
build_after work tasks build item = record {
  run = run.after_all (rules_of work) tasks build.run (reported item);
  seen = seen_after build.seen item;
  own = own_after build.own item;
  failure = failure_after tasks build.failure item;
  duty = duty_after work tasks build.duty item;
}

abbrev pub build_after_all : Work → run.Tasks → Build → List Item → Build
build_after_all work tasks build [] = build
build_after_all work tasks build (item ∷ items) =
    build_after_all work tasks (build_after work tasks build item) items

-- the command of a line, with the exported variables
abbrev pub command_of : Work → TaskLine → Cmd
command_of work one =
    record { text = one.text; cwd = work.variables.cwd; exports = work.mode.exports }

abbrev pub IsCommandOf : Work → Option TaskLine → Cmd → Type 0
IsCommandOf work None cmd = ⊥
IsCommandOf work (Some one) cmd = (run.is_empty one.text ≡ false) × (cmd ≡ command_of work one)

-- the first line of a node is started for a reason
abbrev pub HasReason : Work → run.Tasks → Build → ℕ → ℕ → Type 0
HasReason work tasks build node number =
    number ≡ 1 → IsBegun work node (build.seen node) (tasks node)

-- A job of a node in meta mode is opened when the node may be decided, is out of date and has a
-- line: these bytes are the head of its meta file.
pub record IsHead (work : Work) (tasks : run.Tasks) (build : Build) (node : ℕ) (path bytes : List ℕ)
    : Type 0
  where
    pub may : run.MayDecide (rules_of work) build.run node
    pub reason : IsBegun work node (build.seen node) (tasks node)
    pub some : 0 < length (tasks node)
    pub in_meta : has_meta work node ≡ true
    pub path_is : path ≡ meta_path (node_at work.plan node).name
    pub bytes_are : bytes ≡ texts.head (node_at work.plan node).name

-- These bytes are the meta file of a node's job, by what the job has collected.
pub record IsWhole (work : Work) (tasks : run.Tasks) (build : Build) (node : ℕ) (path bytes : List ℕ)
    : Type 0
  where
    pub path_is : path ≡ meta_path (node_at work.plan node).name
    pub bytes_are : bytes ≡ meta_text (meta_of work node (tasks node) (build.own node).collected)
    pub countable : IsCountable (build.own node).collected
    pub few : length (tasks node) < 2 ^ 32
    pub exports : AreExports work.mode.exports

-- The time of a head is later than each known time that was told for the decision of its node.
abbrev pub IsLaterHead : (work : Work) (tasks : run.Tasks) (build : Build) (node : ℕ)
    (path bytes : List ℕ) → ℕ → IsHead work tasks build node path bytes → Type 0
IsLaterHead work tasks build node path bytes time is = raised_all 0 (begun_whens is.reason) < time

abbrev pub when_told : Seen → When
when_told (dated one) = one.when
when_told (read path bytes) = Missing

-- what was told by the last of some looks, or by none
abbrev pub told_last : When → List Seen → When
told_last when [] = when
told_last when (one ∷ more) = told_last (when_told one) more

-- The time of a whole meta file is later than that of the target, which was the last look of its
-- node.
abbrev pub IsLaterWhole : Build → ℕ → ℕ → Type 0
IsLaterWhole build node time = raised 0 (told_last Missing (build.seen node)) < time

-- what make changes for a node
abbrev pub MayChange : Work → run.Tasks → Build → ℕ → Change → Type 0
MayChange work tasks build node (gone path time) = path ≡ (node_at work.plan node).name
MayChange work tasks build node (head path bytes time) =
    (is : IsHead work tasks build node path bytes)
    × IsLaterHead work tasks build node path bytes time is
MayChange work tasks build node (whole path bytes time) =
    IsWhole work tasks build node path bytes × IsLaterWhole build node time
MayChange work tasks build node (cut_head path part time) =
    (bytes : List ℕ) × IsHead work tasks build node path bytes × Begins part bytes
MayChange work tasks build node (cut_whole path part time) =
    (bytes : List ℕ) × IsWhole work tasks build node path bytes × Begins part bytes

-- Make looks only for the node that may be decided, so between the first look and the decision no
-- child is started and none is taken in; and at the target of a job that is over.
abbrev pub MayMake : Work → run.Tasks → Build → Item → Type 0
MayMake work tasks build (looks node seen) =
    build.duty ≡ free → run.MayDecide (rules_of work) build.run node
MayMake work tasks build (keeps node) = IsKept work node (build.seen node) (tasks node)
MayMake work tasks build (refuses node number what) = IsRefused work node (build.seen node) number what
MayMake work tasks build (starts node number ticket owner cmd) =
    HasReason work tasks build node number
    × IsCommandOf work (run.line_of (tasks node) number) cmd
    × (owner ≡ (build.own node).collected.owner)
MayMake work tasks build (passes node number) = HasReason work tasks build node number
MayMake work tasks build waits = Unit {0}
MayMake work tasks build (steps ticket owner deed time) = Unit {0}
MayMake work tasks build (ends node number owner ended) =
    (build.own node).ticket ≡ ended.ticket.0
MayMake work tasks build (changes node change) = MayChange work tasks build node change
MayMake work tasks build (leaves ticket owner) = Unit {0}

-- a look for a decision, or, where that is due, at the time of the target of a job that is over
abbrev pub MayLook : Work → Duty → ℕ → Seen → Type 0
MayLook work free node seen = Unit {0}
MayLook work (date one) node seen =
    (node ≡ one) × ((when : When) × (seen ≡ dated (record { path = (node_at work.plan node).name; when = when })))
MayLook work (remove one) node seen = ⊥
MayLook work (begin one) node seen = ⊥
MayLook work (close one) node seen = ⊥
MayLook work stop node seen = ⊥

-- which duty a change of make's own does
abbrev pub due_change : ℕ → Change → Duty
due_change node (gone path time) = remove node
due_change node (head path bytes time) = free
due_change node (whole path bytes time) = close node
due_change node (cut_head path part time) = free
due_change node (cut_whole path part time) = close node

-- Make does what it has to do before anything else.
abbrev pub MayFollow : Work → Duty → Item → Type 0
MayFollow work duty (looks node seen) = MayLook work duty node seen
MayFollow work duty (keeps node) = duty ≡ free
MayFollow work duty (refuses node number what) = duty ≡ free
MayFollow work duty (starts node number ticket owner cmd) = duty ≡ opening work node number
MayFollow work duty (passes node number) = duty ≡ opening work node number
MayFollow work duty waits = duty ≡ free
MayFollow work duty (steps ticket owner deed time) = Unit {0}
MayFollow work duty (ends node number owner ended) = duty ≡ free
MayFollow work duty (changes node change) = duty ≡ due_change node change
MayFollow work duty (leaves ticket owner) = Unit {0}

-- Each item follows those before it by the rules of runs, and for its reason.
abbrev pub Makes : Work → run.Tasks → Build → List Item → Type 0
Makes work tasks build [] = Unit {0}
Makes work tasks build (item ∷ items) =
    run.MayAll (rules_of work) tasks build.run (reported item) × MayFollow work build.duty item
    × MayMake work tasks build item × Makes work tasks (build_after work tasks build item) items

abbrev pub job_of : Work → run.Tasks → Job
job_of work tasks =
    record { plan = work.plan; tasks = tasks; many = nat_lt 1 (jobs_of work) }

-- a world, standard output and a report, at one moment
pub record Moment : Type 0 where
  pub history : Option History
  pub out : Option (List ℕ)
  pub events : List Event

abbrev pub moment : Option History → Option (List ℕ) → List Event → Moment
moment history out events = record { history = history; out = out; events = events }

-- how standard output grew: by these bytes, or by a part of them where a write failed
abbrev pub Prints : Bool → Moment → Moment → List ℕ → Type 0
Prints true first last bytes = GainsPart first.out last.out bytes
Prints false first last bytes = Gains first.out last.out bytes

-- the event of a failure
abbrev pub event_of : Option Failure → Option Event
event_of (Some (JobFailed node number status)) = Some (End node number status)
event_of (Some (Expand node number what)) = Some (Refused node number)
event_of None = None

-- A build from one moment to another: there is one list of items whose events are those of the
-- report, which the history tells where the world does, and whose output was printed. Each child
-- that was started was taken in or given up, and children are given up last.
pub record IsBuild (meaning : Meaning) (work : Work) (cut : Bool) (first last : Moment)
    (Stands : Build → Type 0) : Type 0 where
  pub tasks : run.Tasks
  pub items : List Item
  pub reported : last.events ≡ reported_all items
  pub legal : run.IsCutRun (rules_of work) tasks last.events
  pub makes : Makes work tasks (first_build work) items
  pub told : Told first.history last.history (Happened meaning items)
  pub settled : Told first.history last.history (λ old new. EachSettled (happened_all items))
  pub printed : Prints cut first last (output (job_of work tasks) (outputs_of items) last.events)
  pub stands : Stands (build_after_all work tasks (first_build work) items)
  pub gives_up : GivesUpLast items
  pub failure : run.first_failure tasks last.events
      ≡ event_of (build_after_all work tasks (first_build work) items).failure
