-- The plan of a build as the clean build goes by it: the nodes, their lines, and which paths are
-- what.
use Rattle.std.specs.Prelude.{ℕ, ◌+◌, Bool, false, not, ◌&&◌, ◌||◌, List, [], ◌∷◌, codes}
use Rattle.std.specs.Prelude.{if◌then◌else◌}
use Rattle.std.specs.List.{list_any}
use Rattle.std.specs.Str.{bytes_eq}
use Rattle.mk_clean.specs.Clean.{Node, Plan}
use Rattle.mk_decision.specs.Decisions.{Work}
use Rattle.mk_meta.specs.Jobs.{working}
use Rattle.mk_plan.specs.Lists.{is_nil}
use Rattle.mk_plan.specs.Plans.{node_at}
use Rattle.mk_plan.specs.declared.plan.PlanNode.{PlanNode}
use Rattle.mk_trace.specs.Builds.{command_of}
use Rattle.mk_trace.specs.Runs.{Tasks}
use Rattle.mk_world.specs.declared.command.TaskLine.{TaskLine}

-- a node with commands has a job
abbrev pub has_job : PlanNode → Bool
has_job node = not (is_nil node.commands)

-- and makes a file, unless it is phony
abbrev pub makes_file : PlanNode → Bool
makes_file node = has_job node && not node.marks.phony

-- a node has this path
abbrev pub is_called : List ℕ → PlanNode → Bool
is_called path node = bytes_eq node.name path

-- a path that ends in `.meta`
abbrev pub is_meta_path : List ℕ → Bool
is_meta_path [] = false
is_meta_path (byte ∷ bytes) = bytes_eq (byte ∷ bytes) (codes ".meta") || is_meta_path bytes

-- the nodes that have jobs, by their places, of which the first is this one
abbrev pub jobs_from : ℕ → List PlanNode → List ℕ
jobs_from place [] = []
jobs_from place (node ∷ nodes) =
    if has_job node then place ∷ jobs_from (place + 1) nodes else jobs_from (place + 1) nodes

-- The lines that the job of a node runs: those of its task that are not empty.
abbrev pub lines_of : Work → Tasks → ℕ → List TaskLine
lines_of work tasks node = if has_job (node_at work.plan node) then working (tasks node) else []

abbrev pub clean_node : Work → Tasks → ℕ → Node
clean_node work tasks node = record {
  name = (node_at work.plan node).name;
  sources = (node_at work.plan node).sources;
  lines = lines_of work tasks node;
  made = makes_file (node_at work.plan node);
}

-- The plan of what is built, with the tasks of its nodes.
abbrev pub clean_plan : Work → Tasks → Plan
clean_plan work tasks = record {
  command = command_of work;
  node = clean_node work tasks;
  order = jobs_from 0 work.plan;
  is_node = λ path. list_any (is_called path) work.plan;
  is_made = λ path. list_any (λ node. makes_file node && is_called path node) work.plan;
  is_meta = is_meta_path;
}
