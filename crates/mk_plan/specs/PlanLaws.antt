-- What holds of all plans.
use Rattle.std.specs.Prelude.{◌≡◌, ◌<◌, ℕ, Bool, true, List, map, Ok}
use Rattle.mk_closure.specs.Members.{all_preds, roots}
use Rattle.mk_closure.specs.Parts.{State}
use Rattle.mk_closure.specs.Walks.{closed}
use Rattle.mk_graph.specs.Closed.{Reaches}
use Rattle.mk_graph.specs.Nodes.{names_of}
use Rattle.mk_graph.specs.Orders.{IsWhole}
use Rattle.mk_graph.specs.Walks.{preds_of}
use Rattle.mk_graph.specs.declared.Made.{Made}
use Rattle.mk_plan.specs.Plans.{wanted, planned, seeking_of, nodes_of, are_ordered, are_sourced}
use Rattle.mk_plan.specs.declared.plan.PlanNode.{PlanNode}
use Rattle.mk_pool.specs.Pool.{AreDistinct}
use Rattle.mk_world.specs.Deeds.{Store}

-- the paths of the nodes of a plan
abbrev pub plan_names : List PlanNode → List (List ℕ)
plan_names nodes = map (λ (node : PlanNode). node.name) nodes

-- the sources of each node, by their places
abbrev pub all_sources : List PlanNode → List (List ℕ)
all_sources nodes = map (λ (node : PlanNode). node.sources) nodes

-- A node depends on its sources, and on what these depend on.
abbrev pub DependsOn : List PlanNode → ℕ → ℕ → Type 0
DependsOn nodes node other = Reaches (all_sources nodes) (preds_of (all_sources nodes) node) other

-- Where each node stands behind its predecessors and waits for its sources, it stands behind all
-- that it depends on.
abbrev pub DependenceGoesBack : Type 0
DependenceGoesBack =
    (nodes : List PlanNode) → are_ordered 0 nodes ≡ true → are_sourced nodes ≡ true
    → (node other : ℕ) → DependsOn nodes node other → other < node

-- In each plan the nodes wait for their sources.
abbrev pub PlansAreSourced : Type 0
PlansAreSourced =
    (files : Store) (made : Made) (requested : List (List ℕ)) (query : Bool) (nodes : List PlanNode)
    → planned files made requested query ≡ Ok nodes → are_sourced nodes ≡ true

-- A plan has exactly the nodes that are reached from the wanted names over predecessors, each once,
-- and perhaps `.BEGIN` before and `.END` behind them.
pub record IsReached (s : State) (names : List (List ℕ)) (query : Bool) (nodes : List PlanNode)
    : Type 0 where
  pub order : List ℕ
  pub whole : IsWhole (all_preds s) (roots s names) order
  pub nodes_are : nodes ≡ nodes_of s query order

-- Each plan is that of a closure of the wanted names.
abbrev pub PlansAreReached : Type 0
PlansAreReached =
    (files : Store) (made : Made) (requested : List (List ℕ)) (query : Bool) (nodes : List PlanNode)
    → planned files made requested query ≡ Ok nodes → (s : State)
    × (closed files made.graph (seeking_of made) (wanted requested made.main) ≡ Ok s)
    × IsReached s (wanted requested made.main) query nodes

-- No two nodes of a plan have one path.
abbrev pub PlannedNamesDiffer : Type 0
PlannedNamesDiffer =
    (files : Store) (made : Made) (requested : List (List ℕ)) (query : Bool) (nodes : List PlanNode)
    → AreDistinct (names_of made.graph) → planned files made requested query ≡ Ok nodes
    → AreDistinct (plan_names nodes)
