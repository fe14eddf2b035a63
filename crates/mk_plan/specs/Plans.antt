-- The plan: which nodes are made, in which order, and what is known of each.
use Rattle.std.specs.Prelude.{ℕ, ◌+◌, Bool, true, false, nat_eq, nat_lt, ◌&&◌, List, [], ◌∷◌, ◌++◌}
use Rattle.std.specs.Prelude.{length, map, get_or, codes, Option, Some, None, Result, Ok, Err}
use Rattle.std.specs.Prelude.{if◌then◌else◌}
use Rattle.std.specs.List.{list_all}
use Rattle.mk_bytes.specs.Agrees.{◌>>=◌}
use Rattle.mk_closure.specs.Members.{sources_in, sourced_of, preds_in, all_preds, roots}
use Rattle.mk_closure.specs.Members.{commands_in, implied_in, marks_in, numbers_from}
use Rattle.mk_closure.specs.Names.{name_in}
use Rattle.mk_closure.specs.Parts.{State}
use Rattle.mk_closure.specs.Walks.{closed}
use Rattle.mk_closure.specs.declared.fault.CloseFault.{CloseFault}
use Rattle.mk_graph.specs.Marks.{no_marks, marked}
use Rattle.mk_graph.specs.Nodes.{Node, number_of}
use Rattle.mk_graph.specs.Nodes as graph
use Rattle.mk_graph.specs.Walks.{is_among, depth_first}
use Rattle.mk_graph.specs.declared.Made.{Made}
use Rattle.mk_graph.specs.declared.attr.Attr.TheVariants.{Phony}
use Rattle.mk_graph.specs.declared.walk.Ordered.{Ordered}
use Rattle.mk_graph.specs.declared.walk.Ordered.TheVariants as walk
use Rattle.mk_suffix.specs.Found.{Seeking, seeking_in}
use Rattle.mk_world.specs.Deeds.{Store}
use Rattle.mk_plan.specs.Refusals.{of_closure}
use Rattle.mk_plan.specs.declared.fault.PlanFault.{PlanFault}
use Rattle.mk_plan.specs.declared.fault.PlanFault.TheVariants.{NoTarget, Cycle}
use Rattle.mk_plan.specs.declared.plan.PlanNode.{PlanNode}

-- what is made: the requested names, or where there are none the main targets
abbrev pub wanted : List (List ℕ) → List (List ℕ) → List (List ℕ)
wanted [] main = main
wanted (name ∷ more) main = name ∷ more

-- a refusal of the closure is one of the plan
abbrev pub as_plan : {A : Type 0} → Result A CloseFault → Result A PlanFault
as_plan (Ok given) = Ok given
as_plan (Err fault) = Err (of_closure fault)

abbrev pub order_by : State → Ordered → Result (List ℕ) PlanFault
order_by s (walk.Order order) = Ok order
order_by s (walk.Cycle nodes) = Err (Cycle (map (name_in s) nodes))

-- The planned nodes that are reached from the wanted ones, each behind its predecessors, or the
-- first cycle.
abbrev pub order_of : State → List (List ℕ) → Result (List ℕ) PlanFault
order_of s names = order_by s (depth_first (all_preds s) (roots s names))

-- the place of a node, where the first of these has this place
abbrev pub place_from : ℕ → List ℕ → ℕ → ℕ
place_from first [] n = 0
place_from first (one ∷ more) n = if nat_eq n one then first else place_from (first + 1) more n

-- a node, by the places of nodes; so many nodes stand before all others
abbrev pub plan_node : State → (ℕ → ℕ) → ℕ → ℕ → PlanNode
plan_node s place first n = record {
  name = name_in s n;
  sources = map place (sourced_of s (sources_in s n));
  before = map place (preds_in s n) ++ numbers_from 0 first;
  commands = commands_in s n;
  implied = implied_in s n;
  marks = marks_in s n;
}

-- the nodes in their order
abbrev pub inner_nodes : State → List ℕ → ℕ → List PlanNode
inner_nodes s order first = map (plan_node s (place_from first order) first) order

abbrev pub commands_at : List Node → Option ℕ → List (List ℕ)
commands_at nodes None = []
commands_at nodes (Some n) = (graph.node_at nodes n).commands

-- the commands of `.BEGIN` or `.END`, which are left out where it is only asked what is to do
abbrev pub frame_commands : List Node → List ℕ → Bool → List (List ℕ)
frame_commands nodes name true = []
frame_commands nodes name false = commands_at nodes (number_of nodes name)

-- `.BEGIN` or `.END`: it is phony, and has nothing but its commands
abbrev pub frame_node : List ℕ → List ℕ → List (List ℕ) → List PlanNode
frame_node name before [] = []
frame_node name before (command ∷ commands) =
    record {
      name = name;
      sources = [];
      before = before;
      commands = command ∷ commands;
      implied = [];
      marks = marked no_marks Phony;
    } ∷ []

abbrev pub first_nodes : State → Bool → List PlanNode
first_nodes s query = frame_node (codes ".BEGIN") [] (frame_commands s.nodes (codes ".BEGIN") query)

-- `.END` stands behind all nodes
abbrev pub with_end : State → Bool → List PlanNode → List PlanNode
with_end s query nodes =
    nodes ++ frame_node (codes ".END") (numbers_from 0 (length nodes))
    (frame_commands s.nodes (codes ".END") query)

-- `.BEGIN`, the nodes in their order, and `.END`
abbrev pub nodes_of : State → Bool → List ℕ → List PlanNode
nodes_of s query order =
    with_end s query (first_nodes s query ++ inner_nodes s order (length (first_nodes s query)))

abbrev pub plan_of : Bool → List (List ℕ) → State → Result (List PlanNode) PlanFault
plan_of query names s = order_of s names >>= λ order. Ok (nodes_of s query order)

-- by what the sources of rules and the places of names are sought
abbrev pub seeking_of : Made → Seeking
seeking_of made = seeking_in made.suffixes made.paths made.scopes.cwd

abbrev pub named_plan : Store → Made → Bool → List (List ℕ) → Result (List PlanNode) PlanFault
named_plan files made query [] = Err NoTarget
named_plan files made query (name ∷ more) =
    as_plan (closed files made.graph (seeking_of made) (name ∷ more))
    >>= λ s. plan_of query (name ∷ more) s

-- The plan of the requested names on these files, or the first refusal.
abbrev pub planned : Store → Made → List (List ℕ) → Bool → Result (List PlanNode) PlanFault
planned files made requested query = named_plan files made query (wanted requested made.main)

-- all of these places are before a place
abbrev pub is_behind : ℕ → List ℕ → Bool
is_behind place before = list_all (λ one. nat_lt one place) before

-- each node stands behind its predecessors
abbrev pub are_ordered : ℕ → List PlanNode → Bool
are_ordered place [] = true
are_ordered place (node ∷ nodes) = is_behind place node.before && are_ordered (place + 1) nodes

-- whether each source of a node is one of its predecessors
abbrev pub has_its_sources : PlanNode → Bool
has_its_sources node = list_all (is_among node.before) node.sources

-- each node waits for all its sources
abbrev pub are_sourced : List PlanNode → Bool
are_sourced nodes = list_all has_its_sources nodes

-- behind the last node there is none
abbrev pub no_node : PlanNode
no_node = record {
  name = [];
  sources = [];
  before = [];
  commands = [];
  implied = [];
  marks = no_marks;
}

abbrev pub node_at : List PlanNode → ℕ → PlanNode
node_at nodes n = get_or nodes n no_node
