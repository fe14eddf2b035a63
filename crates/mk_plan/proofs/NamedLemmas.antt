-- The names that are looked up in lines are those that are looked up where the lines are made.
use Rattle.std.proofs.Common.{◌≡◌, ◌∙◌, ◌⊎◌, ℕ, ◌+◌, false, List, [], ◌∷◌, ◌++◌, Result, Ok, Err}
use Rattle.std.proofs.Common.{inl, inr, refl, sym, ap, not, append_assoc}
use Rattle.std.proofs.lemmas.List.{append-nil}
use Rattle.mk_ast.specs.Tree.{Tree}
use Rattle.mk_bytes.specs.Agrees.{◌>>=◌}
use Rattle.mk_flags.specs.declared.Flags.{Flags}
use Rattle.mk_graph.specs.declared.mode.Mode.{Mode}
use Rattle.mk_values.specs.Evaluators.{Answer}
use Rattle.mk_values.specs.Facts.{IsOutside}
use Rattle.mk_values.specs.Texts.{parsed}
use Rattle.mk_values.specs.Value as of_values
use Rattle.mk_values.specs.Value.{names, of_tree, with_asked}
use Rattle.mk_values.specs.declared.facts.Asked.{Asked}
use Rattle.mk_values.specs.declared.fault.ExpandFault.{ExpandFault}
use Rattle.mk_values.specs.declared.local.Locals.{Locals}
use Rattle.mk_world.specs.declared.command.TaskLine.{TaskLine}
use Rattle.mk_plan.specs.Newer.{line_named, line_names, lines_named, names_behind, names_from}
use Rattle.mk_plan.specs.Newer.{names_of_task}
use Rattle.mk_plan.specs.Newer.{names_where, tree_names}
use Rattle.mk_plan.specs.Oodate.{refers}
use Rattle.mk_plan.specs.Plans.{node_at}
use Rattle.mk_plan.specs.Refusals.{IsTaskFault}
use Rattle.mk_plan.specs.Tasks.{Setting, at_line, line_as, line_of, line_of_tree, lines_from}
use Rattle.mk_plan.specs.Tasks.{locals_of, manner_of}
use Rattle.mk_plan.specs.Tasks.{questions_from, line_questions, task_with}
use Rattle.mk_plan.specs.declared.fault.TaskFault.{TaskFault}
use Rattle.mk_plan.specs.declared.plan.PlanNode.{PlanNode}
use Rattle.mk_plan.specs.declared.tasks.Manner.{Manner}

-- these names where a line is made, or its fault
abbrev pub where_line : Result (TaskLine × List Asked) ExpandFault → List (List ℕ)
    → Result (List (List ℕ) × List Asked) ExpandFault
where_line line names = line >>= λ made. Ok (names, made.1)

answer-where : (m : Manner) (tree : Tree) (answer : Answer (List ℕ)) (names : List (List ℕ))
    → of_values.names_where answer names
    ≡ where_line (with_asked answer >>= λ v. Ok (line_as m (not (refers tree)) v.0, v.1)) names
answer-where m tree (Ok found) names = refl
answer-where m tree (Err fault) names = refl

tree-where : (k : Setting) (l : Locals) (m : Manner) (asked : List Asked) (before : List (List ℕ))
    (tree : Result Tree ExpandFault)
    → (tree >>= λ tree. of_values.names_behind k.variables l k.lists k.answers asked tree before)
    ≡ where_line (tree >>= line_of_tree k l m asked) (before ++ tree_names k l asked tree)
tree-where k l m asked before (Ok tree) =
    answer-where m tree (of_tree k.variables l k.lists k.answers false asked tree).answer
    (before ++ names k.variables l k.lists k.answers false asked tree)
tree-where k l m asked before (Err fault) = refl

pub line-where : (k : Setting) (l : Locals) (m : Manner) (asked : List Asked)
    (before : List (List ℕ)) (raw : List ℕ)
    → line_named k l asked before raw
    ≡ where_line (line_of k l m asked raw) (before ++ line_names k l asked raw)
line-where k l m asked before raw = tree-where k l m asked before (parsed raw)

rest-where : (k : Setting) (l : Locals) (m : Manner) (lines : List TaskLine) (number : ℕ)
    (before here more : List (List ℕ)) (line : Result (TaskLine × List Asked) ExpandFault)
    → ((lines : List TaskLine) (number : ℕ) (names : List (List ℕ)) (asked : List Asked)
    → lines_named k l names number asked more
    ≡ names_where (lines_from k l m lines number asked more) (names ++ names_from k l m asked more))
    → (at_line number (where_line line (before ++ here))
    >>= λ one. lines_named k l one.0 (number + 1) one.1 more)
    ≡ names_where (at_line number line
    >>= λ one. lines_from k l m (lines ++ one.0 ∷ []) (number + 1) one.1 more)
    (before ++ (here ++ names_behind line (λ now. names_from k l m now more)))
rest-where k l m lines number before here more (Ok one) rest =
    rest (lines ++ one.0 ∷ []) (number + 1) (before ++ here) one.1
    ∙ ap (names_where (lines_from k l m (lines ++ one.0 ∷ []) (number + 1) one.1 more))
    (append_assoc before here (names_from k l m one.1 more))
rest-where k l m lines number before here more (Err fault) rest = refl

pub lines-where : (k : Setting) (l : Locals) (m : Manner) (raws : List (List ℕ))
    (lines : List TaskLine) (number : ℕ) (names : List (List ℕ)) (asked : List Asked)
    → lines_named k l names number asked raws
    ≡ names_where (lines_from k l m lines number asked raws) (names ++ names_from k l m asked raws)
unfolding lines_from names_from lines_named
lines-where k l m [] lines number names asked =
    ap (λ (all : List (List ℕ)). Ok (all, asked)) (sym (append-nil names))
lines-where k l m (raw ∷ more) lines number names asked =
    ap (λ (line : Result (List (List ℕ) × List Asked) ExpandFault). at_line number line
    >>= λ one. lines_named k l one.0 (number + 1) one.1 more)
    (line-where k l m asked names raw)
    ∙ rest-where k l m lines number names (line_names k l asked raw) more (line_of k l m asked raw)
    (λ lines number names asked. lines-where k l m more lines number names asked)

made-where : {A B : Type 0} (made : Result (A × List Asked) TaskFault) (make : A → B)
    (names : List (List ℕ))
    → names_where made names ≡ names_where (made >>= λ one. Ok (make one.0, one.1)) names
made-where (Ok made) make names = refl
made-where (Err fault) make names = refl

-- the names of a node's lines are those of its task
pub task-where : (k : Setting) (suffixes : List (List ℕ)) (nodes : List PlanNode) (n : ℕ)
    (oodate : List (List ℕ)) (mode : Mode) (flags : Flags) (asked : List Asked)
    → lines_named k (locals_of suffixes nodes n oodate) [] 1 asked (node_at nodes n).commands
    ≡ names_of_task k suffixes nodes n oodate mode flags asked
task-where k suffixes nodes n oodate mode flags asked =
    let l = locals_of suffixes nodes n oodate in
    let m = manner_of mode flags (node_at nodes n).marks in
    let raws = (node_at nodes n).commands in
    lines-where k l m raws [] 1 [] asked
    ∙ made-where (lines_from k l m [] 1 asked raws)
    (task_with k.variables mode.exports (node_at nodes n).name) (names_from k l m asked raws)

-- One line after the other

pub lines_named-end : (k : Setting) (l : Locals) (names : List (List ℕ)) (number : ℕ)
    (asked : List Asked)
    → lines_named k l names number asked [] ≡ Ok (names, asked)
unfolding lines_named
lines_named-end k l names number asked = refl

pub lines_named-line : (k : Setting) (l : Locals) (names now_names : List (List ℕ)) (number : ℕ)
    (asked now : List Asked) (rest : List (List ℕ)) (raw : List ℕ) (more : List (List ℕ))
    → rest ≡ raw ∷ more → line_named k l asked names raw ≡ Ok (now_names, now)
    → lines_named k l names number asked rest ≡ lines_named k l now_names (number + 1) now more
unfolding lines_named
lines_named-line k l names now_names number asked now rest raw more are is = rw (are, is) refl

pub lines_named-fault : (k : Setting) (l : Locals) (names : List (List ℕ)) (number : ℕ)
    (asked : List Asked) (rest : List (List ℕ)) (raw : List ℕ) (more : List (List ℕ))
    (what : ExpandFault)
    → rest ≡ raw ∷ more → IsOutside what ⊎ (line_named k l asked names raw ≡ Err what)
    → IsTaskFault (record { line = number; what = what }) (lines_named k l names number asked rest)
unfolding lines_named
lines_named-fault k l names number asked rest raw more what are (inl free) = inl free
lines_named-fault k l names number asked rest raw more what are (inr is) = rw (are, is) (inr refl)

abbrev asked_behind : Result (List (List ℕ) × List Asked) ExpandFault → List Asked
asked_behind (Ok told) = told.1
asked_behind (Err fault) = []

line-made : (line : Result (TaskLine × List Asked) ExpandFault) (some now_names : List (List ℕ))
    (now : List Asked) → where_line line some ≡ Ok (now_names, now)
    → (made : TaskLine) × (line ≡ Ok (made, now))
line-made (Ok made) some now_names now is =
    (made.0, ap (λ asked. Ok (made.0, asked)) (ap asked_behind is))
line-made (Err fault) some now_names now is = absurd cc

line-refused : (line : Result (TaskLine × List Asked) ExpandFault) (some : List (List ℕ))
    (what : ExpandFault) → where_line line some ≡ Err what → line ≡ Err what
line-refused (Ok made) some what is = absurd cc
line-refused (Err fault) some what is = cc

-- a line whose names are found is made
pub line_is_made : (k : Setting) (l : Locals) (m : Manner) (names now_names : List (List ℕ))
    (asked now : List Asked) (raw : List ℕ)
    → line_named k l asked names raw ≡ Ok (now_names, now)
    → (made : TaskLine) × (line_of k l m asked raw ≡ Ok (made, now))
line_is_made k l m names now_names asked now raw is =
    line-made (line_of k l m asked raw) (names ++ line_names k l asked raw) now_names now
    (sym (line-where k l m asked names raw) ∙ is)

-- and one whose names are refused is refused
pub line_is_refused : (k : Setting) (l : Locals) (m : Manner) (names : List (List ℕ))
    (asked : List Asked) (raw : List ℕ) (what : ExpandFault)
    → IsOutside what ⊎ (line_named k l asked names raw ≡ Err what)
    → IsOutside what ⊎ (line_of k l m asked raw ≡ Err what)
line_is_refused k l m names asked raw what (inl free) = inl free
line_is_refused k l m names asked raw what (inr is) =
    inr (line-refused (line_of k l m asked raw) (names ++ line_names k l asked raw) what
    (sym (line-where k l m asked names raw) ∙ is))
