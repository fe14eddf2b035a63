-- Tasks: the command lines of a node, expanded.
use Rattle.std.specs.Prelude.{ℕ, ◌+◌, ◌==◌, ◌||◌, ◌&&◌, Bool, true, false, not, List, [], ◌∷◌, ◌++◌}
use Rattle.std.specs.Prelude.{length, take, drop, position, unwrap_or, Result, Ok, Err}
use Rattle.std.specs.List.{list_any}
use Rattle.mk_ast.specs.Tree.{Tree}
use Rattle.mk_bytes.specs.Agrees.{◌>>=◌}
use Rattle.mk_bytes.specs.Bytes.{at_sign, minus, plus, is_blank}
use Rattle.mk_bytes.specs.declared.pair.Pair.{Pair}
use Rattle.mk_values.specs.Texts.{parsed}
use Rattle.mk_values.specs.Facts.{Answers, Lists}
use Rattle.mk_values.specs.Value.{of_tree, questions_of, value}
use Rattle.mk_values.specs.declared.facts.Asked.{Asked}
use Rattle.mk_values.specs.declared.fault.ExpandFault.{ExpandFault}
use Rattle.mk_values.specs.declared.local.Locals.{Locals}
use Rattle.mk_flags.specs.declared.Flags.{Flags}
use Rattle.mk_graph.specs.declared.attr.Marks.{Marks}
use Rattle.mk_graph.specs.declared.mode.Mode.{Mode}
use Rattle.mk_scopes.specs.Scopes.{Variables}
use Rattle.mk_suffix.specs.Names.{prefix_of}
use Rattle.mk_world.specs.declared.command.Task.{Task}
use Rattle.mk_world.specs.declared.command.TaskLine.{TaskLine}
use Rattle.mk_plan.specs.Metas.{is_meta}
use Rattle.mk_plan.specs.Oodate.{refers}
use Rattle.mk_plan.specs.Plans.{node_at}
use Rattle.mk_plan.specs.declared.fault.TaskFault.{TaskFault}
use Rattle.mk_plan.specs.declared.plan.PlanNode.{PlanNode}
use Rattle.mk_plan.specs.declared.tasks.Manner.{Manner}

-- a byte that says something of the command behind it, or nothing
abbrev pub is_mark : ℕ → Bool
is_mark byte = is_blank byte || byte == at_sign || byte == minus || byte == plus

abbrev pub is_no_mark : ℕ → Bool
is_no_mark byte = not (is_mark byte)

abbrev pub marks_len : List ℕ → ℕ
marks_len text = unwrap_or (position is_no_mark text) (length text)

abbrev pub holds : ℕ → List ℕ → Bool
holds byte text = list_any (λ one. one == byte) text

-- How all lines of a node are run: the options of the build and the node's attributes may make them
-- ignored, and silent. A true `silent` of `.MAKE.MODE` makes those of nodes in meta mode silent.
abbrev pub manner_of : Mode → Flags → Marks → Manner
manner_of mode flags marks = record {
  ignore = flags.ignore || marks.ignore;
  silent = flags.silent || marks.silent || (mode.silent && is_meta mode marks);
}

-- An expanded line: `@` before its text makes it silent, `-` ignored, `+` always run.
abbrev pub line_as : Manner → Bool → List ℕ → TaskLine
line_as manner compared value = record {
  text = drop (marks_len value) value;
  ignore = manner.ignore || holds minus (take (marks_len value) value);
  silent = manner.silent || holds at_sign (take (marks_len value) value);
  always = holds plus (take (marks_len value) value);
  compared = compared;
}

-- what texts are expanded by: the variables, the lists of facts, and the answers of `exists`
pub record Setting : Type 0 where
  pub variables : Variables
  pub lists : Lists
  pub answers : Answers

abbrev pub setting_of : Variables → Lists → Answers → Setting
setting_of variables lists answers = record { variables = variables; lists = lists; answers = answers }

-- A line whose raw text refers to the newer sources by that name is not compared: it has another
-- text in each build. All others are. Behind it stand the questions of `exists` so far.
abbrev pub line_of_tree : Setting → Locals → Manner → List Asked → Tree
    → Result (TaskLine × List Asked) ExpandFault
line_of_tree k locals manner asked tree =
    value k.variables locals k.lists k.answers false asked tree
    >>= λ v. Ok (line_as manner (not (refers tree)) v.0, v.1)

abbrev pub line_of : Setting → Locals → Manner → List Asked → List ℕ
    → Result (TaskLine × List Asked) ExpandFault
line_of k locals manner asked raw = parsed raw >>= line_of_tree k locals manner asked

-- The questions behind a line, also behind its fault.
abbrev pub tree_questions : Setting → Locals → List Asked → Result Tree ExpandFault → List Asked
tree_questions k locals asked (Ok tree) =
    questions_of (of_tree k.variables locals k.lists k.answers false asked tree).answer
tree_questions k locals asked (Err fault) = asked

abbrev pub line_questions : Setting → Locals → List Asked → List ℕ → List Asked
line_questions k locals asked raw = tree_questions k locals asked (parsed raw)

-- the fault of a line has its number
abbrev pub at_line : {A : Type 0} → ℕ → Result A ExpandFault → Result A TaskFault
at_line number (Ok line) = Ok line
at_line number (Err what) = Err (record { line = number; what = what })

-- the lines so far, and the others from this number on, up to the first fault
unfoldable pub lines_from : Setting → Locals → Manner → List TaskLine → ℕ → List Asked
    → List (List ℕ) → Result (List TaskLine × List Asked) TaskFault
lines_from k locals manner lines number asked [] = Ok (lines, asked)
lines_from k locals manner lines number asked (raw ∷ more) =
    at_line number (line_of k locals manner asked raw)
    >>= λ line. lines_from k locals manner (lines ++ line.0 ∷ []) (number + 1) line.1 more

-- The questions behind the lines, also behind the first fault.
abbrev pub questions_behind : Result (TaskLine × List Asked) ExpandFault → List Asked
    → (List Asked → List Asked) → List Asked
questions_behind (Ok line) questions next = next line.1
questions_behind (Err fault) questions next = questions

unfoldable pub questions_from : Setting → Locals → Manner → List Asked → List (List ℕ) → List Asked
questions_from k locals manner asked [] = asked
questions_from k locals manner asked (raw ∷ more) =
    questions_behind (line_of k locals manner asked raw) (line_questions k locals asked raw)
    (λ now. questions_from k locals manner now more)

abbrev pub names_at : List PlanNode → List ℕ → List (List ℕ)
names_at nodes [] = []
names_at nodes (place ∷ places) = (node_at nodes place).name ∷ names_at nodes places

-- What the local names stand for where a node is made, by the known suffixes, the plan, the node
-- and the sources that are newer.
abbrev pub locals_of : List (List ℕ) → List PlanNode → ℕ → List (List ℕ) → Locals
locals_of suffixes nodes n oodate = record {
  target = (node_at nodes n).name;
  all = names_at nodes (node_at nodes n).sources;
  implied = (node_at nodes n).implied;
  prefix = prefix_of suffixes (node_at nodes n).name;
  oodate = oodate;
  some = true;
}

abbrev pub task_with : Variables → List Pair → List ℕ → List TaskLine → Task
task_with variables exports target lines =
    record { lines = lines; cwd = variables.cwd; target = target; exports = exports }

-- The task of a node, where these of its sources are newer than it, and the questions of `exists`
-- behind it.
abbrev pub task_of : Setting → List (List ℕ) → List PlanNode → ℕ → List (List ℕ) → Mode → Flags
    → List Asked → Result (Task × List Asked) TaskFault
task_of k suffixes nodes n oodate mode flags asked =
    lines_from k (locals_of suffixes nodes n oodate) (manner_of mode flags (node_at nodes n).marks) [] 1
    asked (node_at nodes n).commands
    >>= λ lines. Ok (task_with k.variables mode.exports (node_at nodes n).name lines.0, lines.1)

-- The questions of `exists` behind it, also behind its fault.
abbrev pub task_questions : Setting → List (List ℕ) → List PlanNode → ℕ → List (List ℕ) → Mode
    → Flags
    → List Asked → List Asked
task_questions k suffixes nodes n oodate mode flags asked =
    questions_from k (locals_of suffixes nodes n oodate) (manner_of mode flags (node_at nodes n).marks)
    asked (node_at nodes n).commands
