-- How the nodes of a build and the running children belong together.
use Rattle.std.specs.Prelude.{◌≡◌, ◌≢◌, ℕ, List, [], ◌∷◌, Some, slice_get}
use Rattle.std.specs.List.{Contains}
use Rattle.mk_plan.specs.declared.plan.NodeState.TheVariants.{Open}
use Rattle.mk_world.specs.History.{State as Stand, MayAll as MayHappen, after_all as stand_after}
use Rattle.mk_world.specs.History.{child_in}
use Rattle.mk_world.specs.Talks.{Meaning}
use Rattle.mk_world.specs.declared.history.Child.{Child}
use Rattle.mk_decision.specs.Decisions.{Work}
use Rattle.mk_trace.specs.Builds.{Own, Makes, IsCommandOf, first_build, build_after_all}
use Rattle.mk_trace.specs.Calls.{NoneLeft}
use Rattle.mk_trace.specs.Items.{Item, happened_all, FitsAll}
use Rattle.mk_trace.specs.Runs as run

-- no line of this node is due
abbrev pub IsNotDue : ℕ → run.Due → Type 0
IsNotDue node run.anything = Unit {0}
IsNotDue node run.child = Unit {0}
IsNotDue node (run.line one number) = node ≢ one
IsNotDue node (run.close one number) = node ≢ one

-- A node has a child where it is open, and none of its lines is due.
abbrev pub HasChild : run.State → ℕ → Type 0
HasChild state node = (slice_get state.nodes node ≡ Some Open) × IsNotDue node state.due

-- Each node that has a child has one under its ticket, which runs the line that the node has
-- started last. Each running child is that of such a node, and no two nodes have one ticket.
pub record AreTogether (work : Work) (tasks : run.Tasks) (state : run.State) (own : ℕ → Own)
    (children : List Child) : Type 0 where
  pub child : (node : ℕ) → HasChild state node → (one : Child)
      × (child_in children (own node).ticket ≡ Some one)
      × IsCommandOf work (run.line_of (tasks node) (state.started node)) one.cmd
  pub node : (one : Child) → Contains children one → (node : ℕ) × HasChild state node
      × ((own node).ticket ≡ one.ticket)
  pub apart : (node other : ℕ) → HasChild state node → HasChild state other
      → (own node).ticket ≡ (own other).ticket → node ≡ other

-- In a build that begins where no child runs and gives none up, nodes and children belong together.
abbrev pub ChildrenBelongToNodes : Type 0
ChildrenBelongToNodes =
    (meaning : Meaning) (work : Work) (tasks : run.Tasks) (items : List Item) (stand : Stand)
    → stand.children ≡ [] → Makes work tasks (first_build work) items
    → MayHappen meaning stand (happened_all items) → FitsAll meaning stand items → NoneLeft items
    → AreTogether work tasks (build_after_all work tasks (first_build work) items).run
    (build_after_all work tasks (first_build work) items).own
    (stand_after stand (happened_all items)).children
