-- Tasks in which no name of the newer sources is looked up.
use Rattle.std.proofs.Common.{◌≡◌, ℕ, ◌+◌, false, List, [], ◌∷◌, ◌++◌, Result, Ok, Err, not, refl, ap, ◌∙◌}
use Rattle.std.proofs.lemmas.Bool.{or_parts}
use Rattle.mk_ast.specs.Tree.{Tree}
use Rattle.mk_bytes.specs.Agrees.{◌>>=◌}
use Rattle.mk_looks.proofs.NewerLemmas.{newer_do_not_count as value-newer}
use Rattle.mk_values.specs.Evaluators.{Counted}
use Rattle.mk_looks.specs.Looks.{is_newer_name, looks_for_newer, with_newer}
use Rattle.mk_values.specs.Texts.{parsed}
use Rattle.mk_values.specs.Value.{with_asked}
use Rattle.mk_values.specs.declared.facts.Asked.{Asked}
use Rattle.mk_values.specs.declared.fault.ExpandFault.{ExpandFault}
use Rattle.mk_values.specs.declared.local.Locals.{Locals}
use Rattle.mk_world.specs.declared.command.TaskLine.{TaskLine}
use Rattle.mk_plan.specs.Newer.{NewerDoNotCount, line_names, names_behind, names_from, tree_names}
use Rattle.mk_plan.specs.Oodate.{refers}
use Rattle.mk_plan.specs.Plans.{node_at}
use Rattle.mk_plan.specs.Tasks.{Setting, at_line, line_as, line_of, lines_from, locals_of, manner_of}
use Rattle.mk_plan.specs.Tasks.{task_with, line_of_tree}
use Rattle.mk_plan.specs.declared.tasks.Manner.{Manner}

-- of two lists of names, neither has one
both_none : (first second : List (List ℕ)) → looks_for_newer (first ++ second) ≡ false
    → (looks_for_newer first ≡ false) × (looks_for_newer second ≡ false)
both_none [] second none = (refl, none)
both_none (name ∷ first) second none =
    let parts = or_parts (is_newer_name name) (looks_for_newer (first ++ second)) none in
    let more = both_none first second parts.1 in
    (rw (parts.0, more.0) refl, more.1)

tree-newer : (k : Setting) (l : Locals) (newer : List (List ℕ)) (m : Manner) (asked : List Asked)
    (tree : Result Tree ExpandFault)
    → looks_for_newer (tree_names k l asked tree) ≡ false
    → (tree >>= line_of_tree k (with_newer newer l) m asked) ≡ (tree >>= line_of_tree k l m asked)
tree-newer k l newer m asked (Ok tree) none =
    ap (λ (found : Counted (List ℕ)). with_asked found.answer
    >>= λ v. Ok (line_as m (not (refers tree)) v.0, v.1))
    (value-newer k.variables l newer k.lists k.answers false asked tree none)
tree-newer k l newer m asked (Err fault) none = refl

line-newer : (k : Setting) (l : Locals) (newer : List (List ℕ)) (m : Manner) (asked : List Asked)
    (raw : List ℕ)
    → looks_for_newer (line_names k l asked raw) ≡ false
    → line_of k (with_newer newer l) m asked raw ≡ line_of k l m asked raw
line-newer k l newer m asked raw none = tree-newer k l newer m asked (parsed raw) none

behind-newer : (k : Setting) (l : Locals) (newer : List (List ℕ)) (m : Manner)
    (lines : List TaskLine) (number : ℕ) (more : List (List ℕ))
    (line : Result (TaskLine × List Asked) ExpandFault)
    → ((lines : List TaskLine) (number : ℕ) (asked : List Asked)
    → looks_for_newer (names_from k l m asked more) ≡ false
    → lines_from k (with_newer newer l) m lines number asked more
    ≡ lines_from k l m lines number asked more)
    → looks_for_newer (names_behind line (λ now. names_from k l m now more)) ≡ false
    → (at_line number line
    >>= λ one. lines_from k (with_newer newer l) m (lines ++ one.0 ∷ []) (number + 1) one.1 more)
    ≡ (at_line number line
    >>= λ one. lines_from k l m (lines ++ one.0 ∷ []) (number + 1) one.1 more)
behind-newer k l newer m lines number more (Ok one) rest none =
    rest (lines ++ one.0 ∷ []) (number + 1) one.1 none
behind-newer k l newer m lines number more (Err fault) rest none = refl

lines-newer : (k : Setting) (l : Locals) (newer : List (List ℕ)) (m : Manner) (raws : List (List ℕ))
    (lines : List TaskLine) (number : ℕ) (asked : List Asked)
    → looks_for_newer (names_from k l m asked raws) ≡ false
    → lines_from k (with_newer newer l) m lines number asked raws
    ≡ lines_from k l m lines number asked raws
unfolding lines_from names_from
lines-newer k l newer m [] lines number asked none = refl
lines-newer k l newer m (raw ∷ more) lines number asked none =
    let parts = both_none (line_names k l asked raw)
    (names_behind (line_of k l m asked raw) (λ now. names_from k l m now more)) none in
    ap (λ (line : Result (TaskLine × List Asked) ExpandFault). at_line number line
    >>= λ one. lines_from k (with_newer newer l) m (lines ++ one.0 ∷ []) (number + 1) one.1 more)
    (line-newer k l newer m asked raw parts.0)
    ∙ behind-newer k l newer m lines number more (line_of k l m asked raw)
    (λ lines number asked none. lines-newer k l newer m more lines number asked none) parts.1

pub newer_do_not_count : NewerDoNotCount
newer_do_not_count k suffixes nodes n oodate newer mode flags asked none =
    ap (λ lines. lines >>= λ all. Ok (task_with k.variables mode.exports (node_at nodes n).name all.0, all.1))
    (lines-newer k (locals_of suffixes nodes n oodate) newer
    (manner_of mode flags (node_at nodes n).marks) (node_at nodes n).commands [] 1 asked none)
