-- What may follow in a dry run, and why each node is kept, refused or shown.
use Rattle.std.specs.Prelude.{◌≡◌, ℕ, ◌==◌, List, [], ◌∷◌, ◌++◌, Option, Some, None, Bool, true}
use Rattle.std.specs.Prelude.{false, if◌then◌else◌}
use Rattle.mk_decision.specs.Decisions.{Work, IsKept, IsBegun, IsRefused}
use Rattle.mk_plan.specs.AsNew.{as_new}
use Rattle.mk_plan.specs.Deciding.{Rules}
use Rattle.mk_sched.specs.Schedule.{predecessors}
use Rattle.mk_trace.specs.Builds.{IsCommandOf, failure_after}
use Rattle.mk_trace.specs.Items as build
use Rattle.mk_trace.specs.Items.{Item, looks, keeps, refuses, starts, passes, waits, steps, ends}
use Rattle.mk_trace.specs.Items.{changes, leaves}
use Rattle.mk_trace.specs.Runs as run
use Rattle.mk_trace.specs.declared.result.Failure.{Failure}
use Rattle.mk_world.specs.Looks.{Seen}
use Rattle.mk_world.specs.declared.command.TaskLine.{TaskLine}
use Rattle.mk_dry.specs.Items.{DryItem, does, shows, announces, in_build, is_started, dry_tasks}

-- the rules of dry runs: those of runs with one job
abbrev pub rules_of : Work → Rules
rules_of work = record {
  before = predecessors work.plan;
  jobs = 1;
  keep_going = work.flags.keep_going;
}

-- How a dry run stands: its run, what was seen since the last decision, what the next nodes are
-- decided by, the ticket of the last child, the first failure, and the line that was announced.
pub record Dry : Type 0 where
  pub run : run.State
  pub seen : List Seen
  pub work : Work
  pub ticket : ℕ
  pub failure : Option Failure
  pub announced : Option (ℕ × ℕ)

abbrev pub first_dry : Work → Dry
first_dry work = record {
  run = run.first_state (rules_of work);
  seen = [];
  work = work;
  ticket = 0;
  failure = None;
  announced = None;
}

-- With its first line a node is shown. From then on it is new for all that is made from it.
abbrev pub with_shown : Work → ℕ → ℕ → Work
with_shown work node number =
    if number == 1 then record work { plan = as_new work.plan node } else work

abbrev pub seen_by : List Seen → Item → List Seen
seen_by seen (looks node one) = seen ++ one ∷ []
seen_by seen (keeps node) = []
seen_by seen (refuses node number what) = []
seen_by seen (starts node number ticket owner cmd) = seen
seen_by seen (passes node number) = seen
seen_by seen waits = seen
seen_by seen (steps ticket owner deed time) = seen
seen_by seen (ends node number owner ended) = seen
seen_by seen (changes node change) = seen
seen_by seen (leaves ticket owner) = seen

abbrev pub seen_after : List Seen → DryItem → List Seen
seen_after seen (does item) = seen_by seen item
seen_after seen (shows node number) = []
seen_after seen (announces node number) = []

abbrev pub work_after : Work → DryItem → Work
work_after work (does item) = work
work_after work (shows node number) = with_shown work node number
work_after work (announces node number) = with_shown work node number

abbrev pub ticket_by : ℕ → Item → ℕ
ticket_by last (starts node number ticket owner cmd) = ticket
ticket_by last (looks node seen) = last
ticket_by last (keeps node) = last
ticket_by last (refuses node number what) = last
ticket_by last (passes node number) = last
ticket_by last waits = last
ticket_by last (steps ticket owner deed time) = last
ticket_by last (ends node number owner ended) = last
ticket_by last (changes node change) = last
ticket_by last (leaves ticket owner) = last

abbrev pub ticket_after : ℕ → DryItem → ℕ
ticket_after last (does item) = ticket_by last item
ticket_after last (shows node number) = last
ticket_after last (announces node number) = last

abbrev pub announced_by : Option (ℕ × ℕ) → Item → Option (ℕ × ℕ)
announced_by line (starts node number ticket owner cmd) = None
announced_by line (looks node seen) = line
announced_by line (keeps node) = line
announced_by line (refuses node number what) = line
announced_by line (passes node number) = line
announced_by line waits = line
announced_by line (steps ticket owner deed time) = line
announced_by line (ends node number owner ended) = line
announced_by line (changes node change) = line
announced_by line (leaves ticket owner) = line

abbrev pub announced_after : Option (ℕ × ℕ) → DryItem → Option (ℕ × ℕ)
announced_after line (does item) = announced_by line item
announced_after line (shows node number) = line
announced_after line (announces node number) = Some (node, number)

-- the first failure: a refused line, or the end of a line that fails
abbrev pub failed_after : run.Tasks → Option Failure → DryItem → Option Failure
failed_after tasks failure (does item) = failure_after (dry_tasks tasks) failure item
failed_after tasks failure (shows node number) = failure
failed_after tasks failure (announces node number) = failure

abbrev pub dry_after : Rules → run.Tasks → Dry → DryItem → Dry
dry_after rules tasks dry item = record {
  run = run.after_all rules (dry_tasks tasks) dry.run (build.reported_all (in_build item));
  seen = seen_after dry.seen item;
  work = work_after dry.work item;
  ticket = ticket_after dry.ticket item;
  failure = failed_after tasks dry.failure item;
  announced = announced_after dry.announced item;
}

abbrev pub dry_after_all : Rules → run.Tasks → Dry → List DryItem → Dry
dry_after_all rules tasks dry [] = dry
dry_after_all rules tasks dry (item ∷ items) =
    dry_after_all rules tasks (dry_after rules tasks dry item) items

-- A line of a node may be shown where none is announced: its first one for the reason that the node
-- is out of date. It is one that is started, or is not.
pub record MayShow (tasks : run.Tasks) (dry : Dry) (node number : ℕ) (started : Bool) : Type 0 where
  pub free : dry.announced ≡ None
  pub reason : number ≡ 1 → IsBegun dry.work node dry.seen (tasks node)
  pub one : TaskLine
  pub line : run.line_of (tasks node) number ≡ Some one
  pub is : is_started one ≡ started

-- Make looks only for the node that may be decided. A line is started directly behind its
-- announcement, with its command and for no owner. Make changes nothing itself.
abbrev pub MayDo : Rules → run.Tasks → Dry → Item → Type 0
MayDo rules tasks dry (looks node seen) = (dry.announced ≡ None) × run.MayDecide rules dry.run node
MayDo rules tasks dry (keeps node) =
    (dry.announced ≡ None) × IsKept dry.work node dry.seen (tasks node)
MayDo rules tasks dry (refuses node number what) =
    (dry.announced ≡ None) × IsRefused dry.work node dry.seen number what
MayDo rules tasks dry (starts node number ticket owner cmd) =
    (dry.announced ≡ Some (node, number))
    × IsCommandOf dry.work (run.line_of (tasks node) number) cmd × (owner ≡ 0)
MayDo rules tasks dry (passes node number) = ⊥
MayDo rules tasks dry waits = dry.announced ≡ None
MayDo rules tasks dry (steps ticket owner deed time) = Unit {0}
MayDo rules tasks dry (ends node number owner ended) = dry.ticket ≡ ended.ticket.0
MayDo rules tasks dry (changes node change) = ⊥
MayDo rules tasks dry (leaves ticket owner) = Unit {0}

abbrev pub MayMake : Rules → run.Tasks → Dry → DryItem → Type 0
MayMake rules tasks dry (does item) = MayDo rules tasks dry item
MayMake rules tasks dry (shows node number) = MayShow tasks dry node number false
MayMake rules tasks dry (announces node number) =
    MayShow tasks dry node number true
    × run.MayStart rules (dry_tasks tasks) dry.run node number dry.run.due

-- Each item follows those before it by the rules of runs, and for its reason.
abbrev pub Makes : Rules → run.Tasks → Dry → List DryItem → Type 0
Makes rules tasks dry [] = Unit {0}
Makes rules tasks dry (item ∷ items) =
    run.MayAll rules (dry_tasks tasks) dry.run (build.reported_all (in_build item))
    × MayMake rules tasks dry item × Makes rules tasks (dry_after rules tasks dry item) items
