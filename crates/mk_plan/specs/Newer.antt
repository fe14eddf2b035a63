-- The names that are looked up in a task, and the sources that are newer than the target.
use Rattle.std.specs.Prelude.{◌≡◌, ℕ, ◌+◌, false, List, [], ◌∷◌, ◌++◌, Result, Ok, Err}
use Rattle.mk_ast.specs.Tree.{Tree}
use Rattle.mk_bytes.specs.Agrees.{◌>>=◌}
use Rattle.mk_looks.specs.Looks.{looks_for_newer}
use Rattle.mk_values.specs.Texts.{parsed}
use Rattle.mk_values.specs.Value as of_values
use Rattle.mk_values.specs.Value.{names}
use Rattle.mk_values.specs.declared.facts.Asked.{Asked}
use Rattle.mk_values.specs.declared.fault.ExpandFault.{ExpandFault}
use Rattle.mk_values.specs.declared.local.Locals.{Locals}
use Rattle.mk_flags.specs.declared.Flags.{Flags}
use Rattle.mk_graph.specs.declared.mode.Mode.{Mode}
use Rattle.mk_world.specs.declared.command.TaskLine.{TaskLine}
use Rattle.mk_plan.specs.Plans.{node_at}
use Rattle.mk_plan.specs.Tasks.{Setting, at_line, line_of, locals_of, manner_of, task_of}
use Rattle.mk_plan.specs.declared.fault.TaskFault.{TaskFault}
use Rattle.mk_plan.specs.declared.plan.PlanNode.{PlanNode}
use Rattle.mk_plan.specs.declared.tasks.Manner.{Manner}

-- the names that are looked up in a line
abbrev pub tree_names : Setting → Locals → List Asked → Result Tree ExpandFault → List (List ℕ)
tree_names k locals asked (Ok tree) =
    names k.variables locals k.lists k.answers false asked tree
tree_names k locals asked (Err fault) = []

abbrev pub line_names : Setting → Locals → List Asked → List ℕ → List (List ℕ)
line_names k locals asked raw = tree_names k locals asked (parsed raw)

abbrev pub names_behind : Result (TaskLine × List Asked) ExpandFault → (List Asked → List (List ℕ))
    → List (List ℕ)
names_behind (Ok line) next = next line.1
names_behind (Err fault) next = []

-- those of lines, up to the first fault
unfoldable pub names_from : Setting → Locals → Manner → List Asked → List (List ℕ) → List (List ℕ)
names_from k locals manner asked [] = []
names_from k locals manner asked (raw ∷ more) =
    line_names k locals asked raw
    ++ names_behind (line_of k locals manner asked raw) (λ now. names_from k locals manner now more)

-- The names that are looked up where the task of a node is made.
abbrev pub task_names : Setting → List (List ℕ) → List PlanNode → ℕ → List (List ℕ) → Mode → Flags
    → List Asked → List (List ℕ)
task_names k suffixes nodes n oodate mode flags asked =
    names_from k (locals_of suffixes nodes n oodate) (manner_of mode flags (node_at nodes n).marks) asked
    (node_at nodes n).commands

-- these names where something is made, or the first fault, and the questions behind what is made
abbrev pub names_where : {A : Type 0} → Result (A × List Asked) TaskFault → List (List ℕ)
    → Result (List (List ℕ) × List Asked) TaskFault
names_where (Ok made) names = Ok (names, made.1)
names_where (Err fault) names = Err fault

-- The names that are looked up where the task of a node is made, or the task's fault.
abbrev pub names_of_task : Setting → List (List ℕ) → List PlanNode → ℕ → List (List ℕ) → Mode
    → Flags → List Asked → Result (List (List ℕ) × List Asked) TaskFault
names_of_task k suffixes nodes n oodate mode flags asked =
    names_where (task_of k suffixes nodes n oodate mode flags asked)
    (task_names k suffixes nodes n oodate mode flags asked)

-- the names of before, and behind them those that are looked up in a line; or its fault
abbrev pub line_named : Setting → Locals → List Asked → List (List ℕ) → List ℕ
    → Result (List (List ℕ) × List Asked) ExpandFault
line_named k locals asked before raw =
    parsed raw
    >>= λ tree. of_values.names_behind k.variables locals k.lists k.answers asked tree before

-- the same of lines, the first of which has this number
unfoldable pub lines_named : Setting → Locals → List (List ℕ) → ℕ → List Asked → List (List ℕ)
    → Result (List (List ℕ) × List Asked) TaskFault
lines_named k locals names number asked [] = Ok (names, asked)
lines_named k locals names number asked (raw ∷ more) =
    at_line number (line_named k locals asked names raw)
    >>= λ line. lines_named k locals line.0 (number + 1) line.1 more

-- A node in whose commands no name of `.OODATE` is looked up has one task, whichever sources are
-- newer.
abbrev pub NewerDoNotCount : Type 0
NewerDoNotCount =
    (k : Setting) (suffixes : List (List ℕ)) (nodes : List PlanNode) (n : ℕ)
    (oodate newer : List (List ℕ)) (mode : Mode) (flags : Flags) (asked : List Asked)
    → looks_for_newer (task_names k suffixes nodes n oodate mode flags asked) ≡ false
    → task_of k suffixes nodes n newer mode flags asked
    ≡ task_of k suffixes nodes n oodate mode flags asked
