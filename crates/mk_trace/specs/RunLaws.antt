-- What holds of all runs, by their rules alone.
use Rattle.std.specs.Prelude.{◌≡◌, ◌≢◌, ◌↔◌, ℕ, ◌<◌, List, ◌++◌, length, get_or, IsTrue, Option}
use Rattle.std.specs.Prelude.{Some, None, Bool, true, false}
use Rattle.mk_graph.specs.Closed.{Reaches}
use Rattle.mk_graph.specs.Walks.{is_among, preds_of}
use Rattle.mk_plan.specs.Deciding.{Rules, may_decide, is_stopped, open_jobs}
use Rattle.mk_plan.specs.declared.plan.NodeState.{NodeState}
use Rattle.mk_plan.specs.declared.plan.NodeState.TheVariants.{Undecided, Open, Settled, Failed}
use Rattle.mk_trace.specs.Runs.{Tasks, IsCutRun, IsLegalRun, first_state, after_all, first_failure}
use Rattle.mk_trace.specs.declared.event.Event.{Event}

-- Each cut run is the beginning of a legal run.
abbrev pub CutRunsAreBegun : Type 0
CutRunsAreBegun =
    (rules : Rules) (tasks : Tasks) (events : List Event) → IsCutRun rules tasks events
    → (more : List Event) × IsLegalRun rules tasks (events ++ more)

-- how the nodes stand behind these events
abbrev pub nodes_after : Rules → Tasks → List Event → List NodeState
nodes_after rules tasks events = (after_all rules tasks (first_state rules) events).nodes

-- A node depends on its predecessors, and on what these depend on.
abbrev pub DependsOn : List (List ℕ) → ℕ → ℕ → Type 0
DependsOn before node other = Reaches before (preds_of before node) other

-- What a node that was decided depends on is settled.
abbrev pub DecidedDependOnSettled : Type 0
DecidedDependOnSettled =
    (rules : Rules) (tasks : Tasks) (events : List Event) → IsCutRun rules tasks events
    → (node other : ℕ) → get_or (nodes_after rules tasks events) node Undecided ≢ Undecided
    → DependsOn rules.before node other
    → get_or (nodes_after rules tasks events) other Undecided ≡ Settled

-- a node is made, or cannot be made
abbrev pub IsClosed : NodeState → Type 0
IsClosed Undecided = ⊥
IsClosed Open = ⊥
IsClosed Settled = Unit {0}
IsClosed Failed = Unit {0}

-- A node is ready where it is undecided, all its predecessors are made or failed, and it depends on
-- none that failed.
pub record IsReady (before : List (List ℕ)) (nodes : List NodeState) (node : ℕ) : Type 0 where
  pub undecided : get_or nodes node Failed ≡ Undecided
  pub closed : (one : ℕ) → IsTrue (is_among (preds_of before node) one)
      → IsClosed (get_or nodes one Undecided)
  pub sound : (other : ℕ) → DependsOn before node other → get_or nodes other Undecided ≢ Failed

-- It is the first of all that are ready, no failure stops the run, and a job may be opened.
pub record IsFirstReady (rules : Rules) (nodes : List NodeState) (node : ℕ) : Type 0 where
  pub going : is_stopped rules nodes ≡ false
  pub room : open_jobs nodes < rules.jobs
  pub ready : IsReady rules.before nodes node
  pub first : (one : ℕ) → one < node → IsReady rules.before nodes one → ⊥

-- The node that may be decided is the first that is ready.
abbrev pub DecidesFirstReady : Type 0
DecidesFirstReady =
    (rules : Rules) (tasks : Tasks) (events : List Event) → IsCutRun rules tasks events
    → (node : ℕ) → (may_decide rules (nodes_after rules tasks events) ≡ Some node)
    ↔ IsFirstReady rules (nodes_after rules tasks events) node

-- each node stands behind its predecessors
abbrev pub StandBehind : List (List ℕ) → Type 0
StandBehind before =
    (node one : ℕ) → IsTrue (is_among (preds_of before node) one) → one < node

-- Where a run is over and nothing failed, every node is settled.
abbrev pub OverIsSettled : Type 0
OverIsSettled =
    (rules : Rules) (tasks : Tasks) (events : List Event) → IsLegalRun rules tasks events
    → first_failure tasks events ≡ None → StandBehind rules.before → 0 < rules.jobs
    → (node : ℕ) → node < length rules.before
    → get_or (nodes_after rules tasks events) node Undecided ≡ Settled
