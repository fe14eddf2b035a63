-- Of which nodes something is found, and by which reasons a phony node is out of date.
use Rattle.std.specs.Prelude.{◌≡◌, ℕ, ◌&&◌, not, true, List, length, Option, Some, slice_get}
use Rattle.std.specs.Option.{option_or}
use Rattle.mk_breaches.specs.declared.node.NodeFacts.{NodeFacts}
use Rattle.mk_decision.specs.Decisions.{Work}
use Rattle.mk_explain.specs.Turns.{SawFiles}
use Rattle.mk_meta.specs.declared.meta.Meta.{Meta}
use Rattle.mk_oodate.specs.Stale.{by_records, given, is_same, stale}
use Rattle.mk_oodate.specs.declared.reason.NodeMode.{NodeMode}
use Rattle.mk_oodate.specs.declared.reason.Times.{Times}
use Rattle.mk_oodate.specs.declared.reason.Why.{Why}
use Rattle.mk_oodate.specs.declared.reason.Why.TheVariants.{Command}
use Rattle.mk_plan.specs.Plans.{node_at}
use Rattle.mk_plan.specs.declared.plan.PlanNode.{PlanNode}
use Rattle.mk_world.specs.Talks.{Meaning}
use Rattle.mk_world.specs.declared.command.Task.{Task}
use Rattle.mk_world.specs.declared.history.History.{History}
use Rattle.mk_audit.specs.Facts.{has_job, makes_file}
use Rattle.mk_audit.specs.Reasons.{own_times, strict}
use Rattle.mk_audit.specs.Turns.{AreAudited}

-- this is found of a node: it has its name and its sources, a job where it has commands, and makes
-- a file where it is not phony too
pub record IsOfNode (node : PlanNode) (facts : NodeFacts) : Type 0 where
  pub name : facts.name ≡ node.name
  pub sources : facts.sources ≡ node.sources
  pub job : facts.job ≡ has_job node
  pub made : facts.made ≡ makes_file node

-- What an audit finds is found of each node of the plan, in its place.
abbrev pub AuditedNodesAreOfThePlan : Type 0
AuditedNodesAreOfThePlan =
    (meaning : Meaning) (before after : Option History) (work : Work) (nodes : List NodeFacts)
    → AreAudited (SawFiles meaning before after) work nodes
    → (length nodes ≡ length work.plan)
    × ((n : ℕ) (facts : NodeFacts) → slice_get nodes n ≡ Some facts
    → IsOfNode (node_at work.plan n) facts)

-- what its meta file tells without a look at a time of its own: that its commands are not those, or
-- what its records tell
abbrev pub recorded_reason : Task → NodeMode → Times → Meta → Option Why
recorded_reason task mode times meta =
    option_or (given (not mode.ignore_cmd && not (is_same mode.count_only task meta)) Command)
    (by_records mode times meta.stamp meta.records)

-- A phony node in meta mode is out of date by that alone, where it has a meta file of its own name.
abbrev pub PhonyNodesAreByRecords : Type 0
PhonyNodesAreByRecords =
    (mode : NodeMode) (task : Task) (meta : Meta) (times : Times) → mode.meta ≡ true
    → meta.target ≡ task.target
    → stale (Some meta) task (strict true mode) (own_times true times)
    ≡ recorded_reason task (strict true mode) times meta
