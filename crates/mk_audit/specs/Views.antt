-- What is taken of the looks at a node.
use Rattle.std.specs.Prelude.{ℕ, List, Option, Some, None, Result, Ok, Err}
use Rattle.mk_decision.specs.Ages.{source_ages}
use Rattle.mk_decision.specs.Decisions.{Work, asked_task, newer_of}
use Rattle.mk_decision.specs.Metas.{MetaSight, paths_in}
use Rattle.mk_decision.specs.Reasons.{times_by, value_in}
use Rattle.mk_oodate.specs.declared.reason.Age.{Age}
use Rattle.mk_plan.specs.declared.fault.TaskFault.{TaskFault}
use Rattle.mk_values.specs.declared.facts.Asked.{Asked}
use Rattle.mk_world.specs.Looks.{Dated}
use Rattle.mk_world.specs.declared.time.When.{When}
use Rattle.mk_audit.specs.Looks.{NodeSight, asked_names}
use Rattle.mk_audit.specs.declared.commands.Commands.{Commands}
use Rattle.mk_audit.specs.declared.filed.Filed.{Filed}
use Rattle.mk_audit.specs.declared.view.NodeView.{NodeView}

-- what was made, or nothing where there was a fault
abbrev pub made_of : {A : Type 0} → Result (A × List Asked) TaskFault → Option A
made_of (Ok made) = Some made.0
made_of (Err fault) = None

-- the names that the task looks up, the paths that `exists` was asked of for them, and the task
abbrev pub commands_by : Work → ℕ → List (List ℕ) → List Dated → List Dated → Commands
commands_by work node newer named asked = record {
  names = made_of (asked_names work node newer named);
  asked = paths_in named;
  task = made_of (asked_task work node newer asked);
}

-- the times that were told, and the value of the meta file
abbrev pub filed_by : When → List Age → Option MetaSight → Filed
filed_by target ages meta = record { times = times_by target ages meta; value = value_in meta }

abbrev pub view_of : Work → ℕ → NodeSight → NodeView
view_of work node sight = record {
  commands = commands_by work node (newer_of work node sight.target sight.sources)
      sight.named sight.asked;
  filed = filed_by sight.target (source_ages work.plan node sight.sources) sight.meta;
}
