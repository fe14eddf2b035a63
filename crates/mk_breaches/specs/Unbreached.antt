-- What it means that nothing is breached.
use Rattle.std.specs.Prelude.{◌≡◌, ℕ, ◌<◌, true, false, List, [], length, Some, None, slice_get}
use Rattle.std.specs.Option.{option_map_or}
use Rattle.mk_clean.specs.Clean.{IsAmong, Plan}
use Rattle.mk_declared.specs.Recorded.{AreDeclaredBy, IsUnaltered, Recorded}
use Rattle.mk_breaches.specs.Breaches.{breaches, is_made, is_node, ops, sources_at}
use Rattle.mk_breaches.specs.Paths.{is_meta_path}
use Rattle.mk_breaches.specs.declared.node.NodeFacts.{NodeFacts}
use Rattle.mk_breaches.specs.declared.node.PlanFacts.{PlanFacts}

-- what is recorded of the job of each node
abbrev pub recorded_of : List NodeFacts → Recorded
recorded_of nodes n = option_map_or ops (slice_get nodes n) []

-- a node with this number has a job, the name of that of the plan, and makes a file where that does
pub record IsJob (plan : Plan) (nodes : List NodeFacts) (n : ℕ) : Type 0 where
  pub node : NodeFacts
  pub at : slice_get nodes n ≡ Some node
  pub job : node.job ≡ true
  pub name : (plan.node n).name ≡ node.name
  pub made : (plan.node n).made ≡ node.made

-- Nodes are those of a plan, each with its place there as its number.
pub record AreOfPlan (plan : Plan) (nodes : List NodeFacts) : Type 0 where
  -- those in its order are those with jobs
  pub jobs : (n : ℕ) → IsAmong n plan.order → IsJob plan nodes n
  -- those that make files have jobs
  pub makers : (n : ℕ) (node : NodeFacts) → slice_get nodes n ≡ Some node → node.made ≡ true
      → IsAmong n plan.order
  -- each node, with a job or without one, has the same sources
  pub sources : (n : ℕ) → n < length nodes → (plan.node n).sources ≡ sources_at nodes n
  -- the paths of nodes, and those of made files, are the same
  pub is_node : (path : List ℕ) → plan.is_node path ≡ is_node nodes path
  pub is_made : (path : List ℕ) → plan.is_made path ≡ is_made nodes path
  -- a meta path of the plan ends in `.meta`
  pub is_meta : (path : List ℕ) → plan.is_meta path ≡ true → is_meta_path path ≡ true

-- What is found of a node whose job is as its records say: they are there and not stale, its task
-- is no fault and asks only for what no build makes or changes, and all of it is compared.
pub record IsSettled (plan : Plan) (nodes : List NodeFacts) (node : NodeFacts) : Type 0 where
  pub kept : node.unmeta ≡ false
  pub task : node.task ≡ false
  pub compared : node.oodate ≡ false
  pub asked : (path : List ℕ) → IsAmong path node.asked → IsUnaltered plan (recorded_of nodes) path
  pub recorded : node.unrecorded ≡ false
  pub not_stale : node.stale ≡ None

-- Nothing is breached by a plan and its jobs.
pub record NothingIsBreached (plan : Plan) (facts : PlanFacts) (nodes : List NodeFacts)
    : Type 0 where
  pub mode : facts.mode ≡ false
  pub asks : facts.asks ≡ false
  pub same : facts.differs ≡ false
  pub jobs : (n : ℕ) (node : NodeFacts) → slice_get nodes n ≡ Some node → node.job ≡ true
      → IsSettled plan nodes node
  -- what the records say that the jobs read and change is declared
  pub declared : AreDeclaredBy plan (recorded_of nodes)

-- Where no breach is told, nothing is breached.
abbrev pub NoBreachIsTold : Type 0
NoBreachIsTold =
    (plan : Plan) (facts : PlanFacts) (nodes : List NodeFacts) → AreOfPlan plan nodes
    → breaches facts nodes ≡ [] → NothingIsBreached plan facts nodes
