-- The task of a node by looks at the files that stand is that on these files.
use Rattle.std.proofs.Common.{◌≡◌, ◌∙◌, ℕ, zero, suc, not, Bool, true, false, List, [], ◌∷◌, ◌++◌, map}
use Rattle.std.proofs.Common.{Option, Some, None, is_none, Result, Ok, Err, refl, sym, ap, subst, inl, inr}
use Rattle.std.proofs.lemmas.Bool.{false≢true, or_parts}
use Rattle.std.specs.List.{AllByRecursion, list_any}
use Rattle.std.specs.Prelude.{is_some}
use Rattle.mk_ast.specs.Tree.{Tree}
use Rattle.mk_audit.specs.Facts.{is_at_fault, is_oodate}
use Rattle.mk_audit.specs.Looks.{IsAllAsked, asked_names}
use Rattle.mk_audit.specs.Names.{is_uncompared}
use Rattle.mk_audit.specs.Views.{commands_by, made_of}
use Rattle.mk_bytes.specs.Agrees.{◌>>=◌}
use Rattle.mk_clean.specs.Clean.{IsAmong}
use Rattle.mk_decision.specs.Decisions.{Work, asked_questions, asked_task, setting_by, source_names}
use Rattle.mk_decision.specs.Metas.{paths_in}
use Rattle.mk_explain.specs.Turns.{IsAnswered}
use Rattle.mk_flags.specs.declared.Flags.{Flags}
use Rattle.mk_graph.specs.declared.mode.Mode.{Mode}
use Rattle.mk_looks.proofs.NewerLemmas.{newer_do_not_count as value-newer}
use Rattle.mk_looks.specs.Looks.{is_newer_name, looks_for_newer, with_newer}
use Rattle.mk_plan.proofs.NewerLemmas.{newer_do_not_count}
use Rattle.mk_plan.specs.Asking.{as_asked}
use Rattle.mk_plan.specs.Newer.{line_names, names_behind, names_from, names_where, task_names, tree_names}
use Rattle.mk_plan.specs.Oodate.{refers}
use Rattle.mk_plan.specs.Plans.{node_at}
use Rattle.mk_plan.specs.Tasks.{Setting, line_as, line_of, line_of_tree, lines_from, locals_of, manner_of, setting_of, task_of, task_with}
use Rattle.mk_plan.specs.declared.fault.TaskFault.{TaskFault}
use Rattle.mk_plan.specs.declared.plan.PlanNode.{PlanNode}
use Rattle.mk_plan.specs.declared.tasks.Manner.{Manner}
use Rattle.mk_run.specs.CleanRuns.{by_files, task_on}
use Rattle.mk_same.proofs.TaskLemmas.{task_names_are_by_answers, tasks_are_by_answers}
use Rattle.mk_values.specs.Evaluators.{Counted}
use Rattle.mk_values.specs.Facts.{AnsweredBy}
use Rattle.mk_values.specs.Texts.{parsed}
use Rattle.mk_values.specs.Value.{with_asked}
use Rattle.mk_values.specs.declared.facts.Asked.{Asked}
use Rattle.mk_values.specs.declared.fault.ExpandFault.{ExpandFault}
use Rattle.mk_values.specs.declared.local.Locals.{Locals}
use Rattle.mk_world.specs.Calls.{when_of}
use Rattle.mk_world.specs.Deeds.{Store}
use Rattle.mk_world.specs.History.{FileMap, Filed, contents}
use Rattle.mk_world.specs.Looks.{Dated, dated, is_missing}
use Rattle.mk_world.specs.declared.command.Task.{Task}
use Rattle.mk_world.specs.declared.command.TaskLine.{TaskLine}

same-ok : {A E : Type 0} (one other : A) → ◌≡◌ {A = Result A E} (Ok one) (Ok other) → one ≡ other
same-ok one other is = cc

bound : {A B E : Type 0} (given : Result A E) (next : A → Result B E) (last : B)
    → (given >>= next) ≡ Ok last → (first : A) × (given ≡ Ok first) × (next first ≡ Ok last)
bound (Ok first) next last is = (first, refl, is)
bound (Err fault) next last is = absurd cc

-- Where no name of the newer sources is looked up, the same names are looked up whichever are newer.

both-none : (first second : List (List ℕ)) → looks_for_newer (first ++ second) ≡ false
    → (looks_for_newer first ≡ false) × (looks_for_newer second ≡ false)
both-none [] second none = (refl, none)
both-none (name ∷ first) second none =
    let parts = or_parts (is_newer_name name) (looks_for_newer (first ++ second)) none in
    let more = both-none first second parts.1 in
    (rw (parts.0, more.0) refl, more.1)

line-newer : (k : Setting) (l : Locals) (newer : List (List ℕ)) (m : Manner) (asked : List Asked)
    (tree : Result Tree ExpandFault) → looks_for_newer (tree_names k l asked tree) ≡ false
    → (tree >>= line_of_tree k (with_newer newer l) m asked) ≡ (tree >>= line_of_tree k l m asked)
line-newer k l newer m asked (Ok tree) none =
    ap (λ (found : Counted (List ℕ)). with_asked found.answer >>= λ v. Ok (line_as m (not (refers tree)) v.0, v.1))
    (value-newer k.variables l newer k.lists k.answers false asked tree none)
line-newer k l newer m asked (Err fault) none = refl

tree-newer : (k : Setting) (l : Locals) (newer : List (List ℕ)) (asked : List Asked)
    (tree : Result Tree ExpandFault) → looks_for_newer (tree_names k l asked tree) ≡ false
    → tree_names k (with_newer newer l) asked tree ≡ tree_names k l asked tree
tree-newer k l newer asked (Ok tree) none =
    ap (λ (found : Counted (List ℕ)). found.names [])
    (value-newer k.variables l newer k.lists k.answers false asked tree none)
tree-newer k l newer asked (Err fault) none = refl

names-newer : (k : Setting) (l : Locals) (newer : List (List ℕ)) (m : Manner) (raws : List (List ℕ))
    (asked : List Asked) → looks_for_newer (names_from k l m asked raws) ≡ false
    → names_from k (with_newer newer l) m asked raws ≡ names_from k l m asked raws
unfolding names_from
names-newer k l newer m [] asked none = refl
names-newer k l newer m (raw ∷ more) asked none =
    let parts = both-none (line_names k l asked raw)
    (names_behind (line_of k l m asked raw) (λ now. names_from k l m now more)) none in
    ap (λ names. names ++ names_behind (line_of k (with_newer newer l) m asked raw)
    (λ now. names_from k (with_newer newer l) m now more))
    (tree-newer k l newer asked (parsed raw) parts.0)
    ∙ ap (λ (line : Result (TaskLine × List Asked) ExpandFault). line_names k l asked raw ++ names_behind line
    (λ now. names_from k (with_newer newer l) m now more))
    (line-newer k l newer m asked (parsed raw) parts.0)
    ∙ ap (λ names. line_names k l asked raw ++ names)
    (behind (line_of k l m asked raw) (λ now. names-newer k l newer m more now) parts.1)
  where
    behind : (line : Result (TaskLine × List Asked) ExpandFault)
        → ((now : List Asked) → looks_for_newer (names_from k l m now more) ≡ false
        → names_from k (with_newer newer l) m now more ≡ names_from k l m now more)
        → looks_for_newer (names_behind line (λ now. names_from k l m now more)) ≡ false
        → names_behind line (λ now. names_from k (with_newer newer l) m now more)
        ≡ names_behind line (λ now. names_from k l m now more)
    behind (Ok one) rest none = rest one.1 none
    behind (Err fault) rest none = refl

task-names-newer : (k : Setting) (suffixes : List (List ℕ)) (nodes : List PlanNode) (n : ℕ)
    (oodate newer : List (List ℕ)) (mode : Mode) (flags : Flags) (asked : List Asked)
    → looks_for_newer (task_names k suffixes nodes n oodate mode flags asked) ≡ false
    → task_names k suffixes nodes n newer mode flags asked ≡ task_names k suffixes nodes n oodate mode flags asked
task-names-newer k suffixes nodes n oodate newer mode flags asked none =
    names-newer k (locals_of suffixes nodes n oodate) newer (manner_of mode flags (node_at nodes n).marks)
    (node_at nodes n).commands asked none

-- Answers by looks are those by the files.

there : (file : Option Filed) → not (is_missing (when_of file)) ≡ is_some (contents (λ path. file) [])
there None = refl
there (Some file) = refl

answers-fit : (files : FileMap) (asked : List Dated) → AllByRecursion (IsAnswered files) (map dated asked)
    → AnsweredBy (by_files (contents files)) (map as_asked asked)
answers-fit files [] answered place one is = absurd cc
answers-fit files (first ∷ asked) answered zero one is =
    let same : as_asked first ≡ one = cc in
    subst (λ (it : Asked). it.answer ≡ is_some (contents files it.path)) same
    (ap (λ when. not (is_missing when)) answered.0 ∙ there (files first.path))
answers-fit files (first ∷ asked) answered (suc place) one is = answers-fit files asked answered.1 place one is

-- what was made, where there is no fault
made-some : {A : Type 0} (made : Result (A × List Asked) TaskFault) → is_none (made_of made) ≡ false
    → (one : A × List Asked) × (made ≡ Ok one)
made-some (Ok one) some = (one, refl)
made-some (Err fault) some = absurd (false≢true (sym some))

-- names are found where there is a task
named-task : (task : Result (Task × List Asked) TaskFault) (names : List (List ℕ)) (found : List (List ℕ) × List Asked)
    → names_where task names ≡ Ok found
    → (one : Task × List Asked) × (task ≡ Ok one) × (found.0 ≡ names) × (found.1 ≡ one.1)
named-task (Ok one) names found is =
    let same = same-ok (names, one.1) found is in
    (one, refl, ap (λ it. it.0) (sym same), ap (λ it. it.1) (sym same))
named-task (Err fault) names found is = absurd cc

all-asked : {A : Type 0} (made : Result (A × List Asked) TaskFault) (one : A × List Asked) (questions : List Asked)
    (dates : List Dated) → made ≡ Ok one → IsAllAsked made questions dates → one.1 ≡ map as_asked dates
all-asked {A} made one questions dates is all = subst (λ it. IsAllAsked {A = A} it questions dates) is all

pub asked-paths : (asked : List Asked) (named : List Dated) → asked ≡ map as_asked named
    → (question : Asked) → IsAmong question asked → IsAmong question.path (paths_in named)
asked-paths asked named is question among =
    by named (subst (IsAmong question) is among)
  where
    by : (named : List Dated) → IsAmong question (map as_asked named) → IsAmong question.path (paths_in named)
    by [] among = absurd among
    by (one ∷ named) (inl here) = inl (ap (λ (it : Asked). it.path) here)
    by (one ∷ named) (inr later) = inr (by named later)

all-compared : (lines : List TaskLine) → list_any is_uncompared lines ≡ false
    → AllByRecursion (λ (line : TaskLine). line.compared ≡ true) lines
all-compared [] none = tt
all-compared (line ∷ lines) none =
    let parts = or_parts (is_uncompared line) (list_any is_uncompared lines) none in
    (yes line.compared parts.0, all-compared lines parts.1)
  where
    yes : (b : Bool) → not b ≡ false → b ≡ true
    yes true is = refl
    yes false is = absurd (false≢true (sym is))

-- a task has the lines and the rest
pub task-is : (k : Setting) (suffixes : List (List ℕ)) (nodes : List PlanNode) (n : ℕ) (newer : List (List ℕ))
    (mode : Mode) (flags : Flags) (asked : List Asked) (task : Task × List Asked)
    → task_of k suffixes nodes n newer mode flags asked ≡ Ok task
    → task_with k.variables mode.exports (node_at nodes n).name task.0.lines ≡ task.0
task-is k suffixes nodes n newer mode flags asked task is =
    let make : List TaskLine × List Asked → Result (Task × List Asked) TaskFault =
    λ lines. Ok (task_with k.variables mode.exports (node_at nodes n).name lines.0, lines.1) in
    let made = bound (lines_from k (locals_of suffixes nodes n newer) (manner_of mode flags (node_at nodes n).marks) [] 1
    asked (node_at nodes n).commands) make task is in
    let same = same-ok (task_with k.variables mode.exports (node_at nodes n).name made.0.0, made.0.1) task made.2 in
    ap (λ (it : Task × List Asked). task_with k.variables mode.exports (node_at nodes n).name it.0.lines) (sym same)
    ∙ ap (λ (it : Task × List Asked). it.0) same

-- What an audit finds of the commands of a node, where it finds no fault and no name of newer sources: the task
-- of the node on the files that stand.
pub record HasTaskOn (work : Work) (node : ℕ) (files : Store) (newer : List (List ℕ)) (named asked : List Dated)
    : Type 0
  where
    pub task : Task × List Asked
    pub by_looks : (commands_by work node newer named asked).task ≡ Some task.0
    pub on_files : task_on work node files ≡ Ok task
    pub no_newer : looks_for_newer (task_names (setting_of work.variables work.lists (by_files files))
        work.suffixes work.plan node (source_names work node) work.mode work.flags []) ≡ false
    pub answered : AnsweredBy (by_files files) task.1
    pub questions : task.1 ≡ map as_asked named
    pub compared : AllByRecursion (λ (line : TaskLine). line.compared ≡ true) task.0.lines

pub has-task-on : (files : FileMap) (work : Work) (node : ℕ) (newer : List (List ℕ)) (named asked : List Dated)
    → AllByRecursion (IsAnswered files) (map dated named) → AllByRecursion (IsAnswered files) (map dated asked)
    → IsAllAsked (asked_names work node newer named) (asked_questions work node newer named) named
    → IsAllAsked (asked_task work node newer asked) (asked_questions work node newer asked) asked
    → is_at_fault (commands_by work node newer named asked) ≡ false
    → is_oodate (commands_by work node newer named asked).names (commands_by work node newer named asked).task ≡ false
    → HasTaskOn work node (contents files) newer named asked
has-task-on files work node newer named asked names_answered task_answered all_named all_asked no_fault no_oodate =
    let store = contents files in
    let k = setting_of work.variables work.lists (by_files store) in
    let sources = source_names work node in
    let faults = or_parts (is_none (made_of (asked_names work node newer named)))
    (is_none (made_of (asked_task work node newer asked))) no_fault in
    let names = made-some (asked_names work node newer named) faults.0 in
    let made = made-some (asked_task work node newer asked) faults.1 in
    let found = named-task (asked_task work node newer named)
    (task_names (setting_by work named) work.suffixes work.plan node newer work.mode work.flags []) names.0 names.1 in
    let named_questions : found.0.1 ≡ map as_asked named =
    sym found.3 ∙ all-asked (asked_names work node newer named) names.0 (asked_questions work node newer named) named
    names.1 all_named in
    let made_questions : made.0.1 ≡ map as_asked asked =
    all-asked (asked_task work node newer asked) made.0 (asked_questions work node newer asked) asked made.1 all_asked in
    let named_fits = subst (AnsweredBy (by_files store)) (sym named_questions) (answers-fit files named names_answered) in
    let made_fits = subst (AnsweredBy (by_files store)) (sym made_questions) (answers-fit files asked task_answered) in
    let first = tasks_are_by_answers (setting_by work named) (by_files store) work.suffixes work.plan node newer
    work.mode work.flags [] found.0 found.1 named_fits in
    let second = tasks_are_by_answers (setting_by work asked) (by_files store) work.suffixes work.plan node newer
    work.mode work.flags [] made.0 made.1 made_fits in
    let same : found.0 ≡ made.0 = same-ok found.0 made.0 (sym first ∙ second) in
    let names_are = task_names_are_by_answers (setting_by work named) (by_files store) work.suffixes work.plan node
    newer work.mode work.flags [] found.0 found.1 named_fits in
    let are : (task_names k work.suffixes work.plan node newer work.mode work.flags []) ≡ names.0.0 =
    names_are ∙ sym found.2 in
    let some_names : made_of (asked_names work node newer named) ≡ Some names.0.0 = ap made_of names.1 in
    let some_task : made_of (asked_task work node newer asked) ≡ Some made.0.0 = ap made_of made.1 in
    let oodate : is_oodate (Some names.0.0) (Some made.0.0) ≡ false =
    subst (λ n. is_oodate n (Some made.0.0) ≡ false) some_names
    (subst (λ t. is_oodate (made_of (asked_names work node newer named)) t ≡ false) some_task no_oodate) in
    let by_newer = or_parts (looks_for_newer names.0.0) (list_any is_uncompared made.0.0.lines) oodate in
    let none = subst (λ n. looks_for_newer n ≡ false) (sym are) by_newer.0 in
    record {
      task = made.0;
      by_looks = some_task;
      on_files = newer_do_not_count k work.suffixes work.plan node newer sources work.mode work.flags [] none ∙ second;
      no_newer = subst (λ n. looks_for_newer n ≡ false)
          (sym (task-names-newer k work.suffixes work.plan node newer sources work.mode work.flags [] none)) none;
      answered = made_fits;
      questions = ap (λ (it : Task × List Asked). it.1) (sym same) ∙ named_questions;
      compared = all-compared made.0.0.lines by_newer.1;
    }
