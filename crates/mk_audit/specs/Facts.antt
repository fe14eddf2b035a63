-- What is found of a node.
use Rattle.std.specs.Prelude.{◌≡◌, ◌⊎◌, ℕ, ◌<◌, ◌&&◌, ◌||◌, Bool, true, false, not, List, []}
use Rattle.std.specs.Prelude.{length, Option, Some, None, is_none}
use Rattle.mk_breaches.specs.declared.node.NodeFacts.{NodeFacts}
use Rattle.mk_decision.specs.Decisions.{Work, mode_at}
use Rattle.mk_oodate.specs.declared.reason.Why.{Why}
use Rattle.mk_plan.specs.Lists.{is_nil}
use Rattle.mk_plan.specs.Plans.{node_at}
use Rattle.mk_plan.specs.declared.plan.PlanNode.{PlanNode}
use Rattle.mk_world.specs.Looks.{Seen}
use Rattle.mk_world.specs.declared.command.Task.{Task}
use Rattle.mk_audit.specs.Looks.{IsSeen, NodeSight, looks_of, records_of}
use Rattle.mk_audit.specs.Names.{is_by_newer}
use Rattle.mk_audit.specs.Reasons.{reason_of}
use Rattle.mk_audit.specs.Views.{view_of}
use Rattle.mk_audit.specs.declared.commands.Commands.{Commands}
use Rattle.mk_audit.specs.declared.filed.Filed.{Filed}
use Rattle.mk_audit.specs.declared.view.NodeView.{NodeView}

-- a node with commands has a job
abbrev pub has_job : PlanNode → Bool
has_job node = not (is_nil node.commands)

-- and makes a file, unless it is phony
abbrev pub makes_file : PlanNode → Bool
makes_file node = has_job node && not node.marks.phony

-- it makes a file for which no meta file is kept, or not compared
abbrev pub is_unmeta : PlanNode → Bool
is_unmeta node = makes_file node && (node.marks.no_meta || node.marks.no_meta_cmp)

-- its task is a fault, and so are the names that this looks up
abbrev pub is_at_fault : Commands → Bool
is_at_fault commands = is_none commands.names || is_none commands.task

-- its task is by which of its sources are newer
abbrev pub is_oodate : Option (List (List ℕ)) → Option Task → Bool
is_oodate None task = false
is_oodate (Some names) None = false
is_oodate (Some names) (Some task) = is_by_newer names task

-- why it is out of date, where it has a task
abbrev pub stale_of : Work → ℕ → Option Task → Filed → Option Why
stale_of work node None filed = None
stale_of work node (Some task) filed = reason_of work node task filed.value filed.times

-- what is found of a node with commands by what is taken of the looks at it
abbrev pub facts_by : Work → ℕ → NodeView → NodeFacts
facts_by work node view = record {
  name = (node_at work.plan node).name;
  made = makes_file (node_at work.plan node);
  sources = (node_at work.plan node).sources;
  job = true;
  unmeta = is_unmeta (node_at work.plan node);
  task = is_at_fault view.commands;
  oodate = is_oodate view.commands.names view.commands.task;
  asked = view.commands.asked;
  unrecorded = not (mode_at work node).meta;
  stale = stale_of work node view.commands.task view.filed;
  records = records_of (node_at work.plan node).name view.filed.value;
}

abbrev pub facts_of : Work → ℕ → NodeSight → NodeFacts
facts_of work node sight = facts_by work node (view_of work node sight)

-- a node without commands has no job, and is not looked at
abbrev pub plain_facts : PlanNode → NodeFacts
plain_facts node = record {
  name = node.name;
  made = false;
  sources = node.sources;
  job = false;
  unmeta = false;
  task = false;
  oodate = false;
  asked = [];
  unrecorded = false;
  stale = None;
  records = [];
}

-- This was seen for a node, and is found of it.
abbrev pub IsAudited : Work → ℕ → List Seen → NodeFacts → Type 0
IsAudited work node seen facts =
    (((node_at work.plan node).commands ≡ []) × (seen ≡ [])
    × (facts ≡ plain_facts (node_at work.plan node)))
    ⊎ ((0 < length (node_at work.plan node).commands)
    × (sight : NodeSight) × IsSeen work node sight × (seen ≡ looks_of work node sight)
    × (facts ≡ facts_of work node sight))
