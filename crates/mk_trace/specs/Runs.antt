-- Legal runs: which events may follow one another in a build.
use Rattle.std.specs.Prelude.{◌≡◌, ℕ, ◌+◌, ◌-◌, ◌<◌, ◌==◌, nat_le, List, [], ◌∷◌, length, map}
use Rattle.std.specs.Prelude.{Option, Some, None, Bool, true, false, not, ◌&&◌, ◌||◌, if◌then◌else◌}
use Rattle.std.specs.Prelude.{set, slice_get}
use Rattle.mk_plan.specs.Deciding.{Rules, may_decide, is_stopped, open_jobs}
use Rattle.mk_plan.specs.declared.plan.NodeState.{NodeState}
use Rattle.mk_plan.specs.declared.plan.NodeState.TheVariants.{Undecided, Open, Settled, Failed}
use Rattle.mk_world.specs.declared.command.TaskLine.{TaskLine}
use Rattle.mk_trace.specs.declared.event.Event.{Event}
use Rattle.mk_trace.specs.declared.event.Event.TheVariants.{Kept, Refused, Shown, Start, End, Wait}

-- the command lines of each node whose lines are started
abbrev pub Tasks : Type 0
Tasks = ℕ → List TaskLine

-- what has to follow directly
pub data Due : Type 0 where
  anything : Due
  -- the end of a child
  child : Due
  -- the start of this line of this node
  line : (node number : ℕ) → Due
  -- the end of this empty line of this node
  close : (node number : ℕ) → Due

-- how a run stands: its nodes, the line that each has started last, and what is due
pub record State : Type 0 where
  pub nodes : List NodeState
  pub started : ℕ → ℕ
  pub due : Due

abbrev pub first_state : Rules → State
first_state rules = record {
  nodes = map (λ before. Undecided) rules.before;
  started = λ node. 0;
  due = anything;
}

-- the line of a task with this number, counted from 1
abbrev pub line_of : List TaskLine → ℕ → Option TaskLine
line_of lines number = slice_get lines (number - 1)

abbrev pub is_empty : List ℕ → Bool
is_empty [] = true
is_empty (byte ∷ bytes) = false

-- an empty line starts no child
abbrev pub has_child : Option TaskLine → Bool
has_child None = false
has_child (Some one) = not (is_empty one.text)

abbrev pub is_ignored : Option TaskLine → Bool
is_ignored None = false
is_ignored (Some one) = one.ignore

-- A line fails where its status is not 0 and it is not ignored.
abbrev pub fails : Option TaskLine → ℕ → Bool
fails one status = not (status == 0) && not (is_ignored one)

-- a node stands so, and nothing is due
abbrev pub settle : State → ℕ → NodeState → State
settle state node stands =
    record { nodes = set state.nodes node stands; started = state.started; due = anything }

abbrev pub start_line : Tasks → State → ℕ → ℕ → State
start_line tasks state node number = record {
  nodes = set state.nodes node Open;
  started = λ one. if one == node then number else state.started one;
  due = if has_child (line_of (tasks node) number) then anything else close node number;
}

-- A job ends with a line that fails, with its last line, or with the next end behind a failure that
-- stops the run. Else its next line is due.
abbrev pub end_line : Rules → Tasks → State → ℕ → ℕ → ℕ → State
end_line rules tasks state node number status =
    if fails (line_of (tasks node) number) status then settle state node Failed
    else (if nat_le (length (tasks node)) number || is_stopped rules state.nodes
    then settle state node Settled
    else record {
      nodes = state.nodes;
      started = state.started;
      due = line node (number + 1);
    })

abbrev pub after : Rules → Tasks → State → Event → State
after rules tasks state (Kept node) = settle state node Settled
after rules tasks state (Refused node number) = settle state node Failed
after rules tasks state (Shown node number) = state
after rules tasks state (Start node number) = start_line tasks state node number
after rules tasks state (End node number status) = end_line rules tasks state node number status
after rules tasks state Wait =
    record { nodes = state.nodes; started = state.started; due = child }

-- a node is decided that may be
abbrev pub MayDecide : Rules → State → ℕ → Type 0
MayDecide rules state node = (state.due ≡ anything) × (may_decide rules state.nodes ≡ Some node)

-- the first line of a node that may be decided, or the line that is due
abbrev pub MayStart : Rules → Tasks → State → ℕ → ℕ → Due → Type 0
MayStart rules tasks state node number anything =
    (may_decide rules state.nodes ≡ Some node) × (number ≡ 1) × (0 < length (tasks node))
MayStart rules tasks state node number child = ⊥
MayStart rules tasks state node number (line one next) = (node ≡ one) × (number ≡ next)
MayStart rules tasks state node number (close one last) = ⊥

-- a child of an open job behind a wait, or the empty line that was started
abbrev pub MayEnd : State → ℕ → ℕ → ℕ → Due → Type 0
MayEnd state node number status anything = ⊥
MayEnd state node number status child =
    (slice_get state.nodes node ≡ Some Open) × (state.started node ≡ number)
MayEnd state node number status (line one next) = ⊥
MayEnd state node number status (close one last) =
    (node ≡ one) × (number ≡ last) × (status ≡ 0)

-- Make waits only where nothing may be decided and a job is open.
abbrev pub MayWait : Rules → State → Type 0
MayWait rules state =
    (state.due ≡ anything) × (may_decide rules state.nodes ≡ None) × (0 < open_jobs state.nodes)

abbrev pub May : Rules → Tasks → State → Event → Type 0
May rules tasks state (Kept node) = MayDecide rules state node
May rules tasks state (Refused node number) = MayDecide rules state node
May rules tasks state (Shown node number) = ⊥
May rules tasks state (Start node number) = MayStart rules tasks state node number state.due
May rules tasks state (End node number status) = MayEnd state node number status state.due
May rules tasks state Wait = MayWait rules state

abbrev pub after_all : Rules → Tasks → State → List Event → State
after_all rules tasks state [] = state
after_all rules tasks state (event ∷ events) =
    after_all rules tasks (after rules tasks state event) events

abbrev pub MayAll : Rules → Tasks → State → List Event → Type 0
MayAll rules tasks state [] = Unit {0}
MayAll rules tasks state (event ∷ events) =
    May rules tasks state event × MayAll rules tasks (after rules tasks state event) events

-- nothing is due, no job is open, and no node may be decided
pub record IsOver (rules : Rules) (state : State) : Type 0 where
  pub due : state.due ≡ anything
  pub none_open : open_jobs state.nodes ≡ 0
  pub none_ready : may_decide rules state.nodes ≡ None

-- A cut run: each event may follow those before it.
abbrev pub IsCutRun : Rules → Tasks → List Event → Type 0
IsCutRun rules tasks events = MayAll rules tasks (first_state rules) events

-- A legal run: a cut run that is over.
pub record IsLegalRun (rules : Rules) (tasks : Tasks) (events : List Event) : Type 0 where
  pub each : IsCutRun rules tasks events
  pub over : IsOver rules (after_all rules tasks (first_state rules) events)

-- the first of two, where it is there
abbrev pub or_next : Option Event → Option Event → Option Event
or_next None next = next
or_next (Some event) next = Some event

-- the failing event that an event is, if it is one
abbrev pub failure_of : Tasks → Event → Option Event
failure_of tasks (Kept node) = None
failure_of tasks (Refused node number) = Some (Refused node number)
failure_of tasks (Shown node number) = None
failure_of tasks (Start node number) = None
failure_of tasks (End node number status) =
    if fails (line_of (tasks node) number) status then Some (End node number status) else None
failure_of tasks Wait = None

-- The first failing event: a refused line, or the end of a line that fails.
abbrev pub first_failure : Tasks → List Event → Option Event
first_failure tasks [] = None
first_failure tasks (event ∷ events) = or_next (failure_of tasks event) (first_failure tasks events)
