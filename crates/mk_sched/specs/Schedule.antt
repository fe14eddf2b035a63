-- Schedules as contracts see them.
use Rattle.std.specs.Prelude.{ℕ, List, Bool, map, set, if◌then◌else◌}
use Rattle.mk_plan.specs.Deciding.{Rules}
use Rattle.mk_plan.specs.declared.plan.NodeState.{NodeState}
use Rattle.mk_plan.specs.declared.plan.NodeState.TheVariants.{Undecided, Settled, Failed}
use Rattle.mk_plan.specs.declared.plan.PlanNode.{PlanNode}

-- the rules of a run, and how each node stands in it
pub record Schedule : Type 0 where
  pub rules : Rules
  pub nodes : List NodeState

-- the predecessors of each node
abbrev pub predecessors : List PlanNode → List (List ℕ)
predecessors plan = map (λ (node : PlanNode). node.before) plan

abbrev pub schedule_of : List PlanNode → ℕ → Bool → List NodeState → Schedule
schedule_of plan jobs keep_going nodes = record {
  rules = record { before = predecessors plan; jobs = jobs; keep_going = keep_going };
  nodes = nodes;
}

-- nothing was decided yet
abbrev pub none_decided : List PlanNode → List NodeState
none_decided plan = map (λ _. Undecided) plan

-- one node stands otherwise, and all others as before
abbrev pub with_node : Schedule → ℕ → NodeState → Schedule
with_node schedule node state =
    record { rules = schedule.rules; nodes = set schedule.nodes node state }

-- how a node stands whose job has ended well or not
abbrev pub ended_state : Bool → NodeState
ended_state ok = if ok then Settled else Failed
