-- A task is by the answers to the paths that its commands ask `exists` of.
use Rattle.std.specs.Prelude.{◌≡◌, ◌⊎◌, ℕ, List, Ok}
use Rattle.mk_answers.specs.Evaluations.{PartAtQuestion}
use Rattle.mk_flags.specs.declared.Flags.{Flags}
use Rattle.mk_graph.specs.declared.mode.Mode.{Mode}
use Rattle.mk_plan.specs.Newer.{task_names}
use Rattle.mk_plan.specs.Tasks.{Setting, setting_of, task_of}
use Rattle.mk_plan.specs.declared.plan.PlanNode.{PlanNode}
use Rattle.mk_values.specs.Facts.{AnsweredBy, Answers}
use Rattle.mk_values.specs.declared.facts.Asked.{Asked}
use Rattle.mk_world.specs.declared.command.Task.{Task}

-- the same setting with other answers
abbrev pub with_answers : Answers → Setting → Setting
with_answers other k = setting_of k.variables k.lists other

-- Other answers that agree with the questions of a task give the same task, with the same
-- questions.
abbrev pub TasksAreByAnswers : Type 0
TasksAreByAnswers =
    (k : Setting) (other : Answers) (suffixes : List (List ℕ)) (nodes : List PlanNode) (n : ℕ)
    (newer : List (List ℕ)) (mode : Mode) (flags : Flags) (asked : List Asked) (task : Task × List Asked)
    → task_of k suffixes nodes n newer mode flags asked ≡ Ok task → AnsweredBy other task.1
    → task_of (with_answers other k) suffixes nodes n newer mode flags asked ≡ Ok task

-- And the same names are looked up in it.
abbrev pub TaskNamesAreByAnswers : Type 0
TaskNamesAreByAnswers =
    (k : Setting) (other : Answers) (suffixes : List (List ℕ)) (nodes : List PlanNode) (n : ℕ)
    (newer : List (List ℕ)) (mode : Mode) (flags : Flags) (asked : List Asked) (task : Task × List Asked)
    → task_of k suffixes nodes n newer mode flags asked ≡ Ok task → AnsweredBy other task.1
    → task_names (with_answers other k) suffixes nodes n newer mode flags asked
    ≡ task_names k suffixes nodes n newer mode flags asked

-- Two tasks of a node by any answers are the same, with the same questions, or they part at a
-- question.
abbrev pub TasksPartAtQuestions : Type 0
TasksPartAtQuestions =
    (k : Setting) (other : Answers) (suffixes : List (List ℕ)) (nodes : List PlanNode) (n : ℕ)
    (newer : List (List ℕ)) (mode : Mode) (flags : Flags) (asked : List Asked) (task again : Task × List Asked)
    → task_of k suffixes nodes n newer mode flags asked ≡ Ok task
    → task_of (with_answers other k) suffixes nodes n newer mode flags asked ≡ Ok again
    → (again ≡ task) ⊎ PartAtQuestion k.answers task.1 again.1
