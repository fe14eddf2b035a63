-- The lines of a task are commands, of which a meta file can tell.
use Rattle.std.proofs.Common.{◌≡◌, ◌∙◌, ℕ, suc, ◌+◌, ◌≤◌, not, nat_lt, Bool, true, false, List, [], ◌∷◌, ◌++◌, length, drop, Some, None, Result, Ok, Err}
use Rattle.std.proofs.Common.{refl, sym, ap, subst, arith}
use Rattle.std.proofs.lemmas.Bool.{cond_both}
use Rattle.std.proofs.lemmas.Bool.Decides.{nat_tests}
use Rattle.std.proofs.lemmas.Grind.{common_steps}
use Rattle.std.specs.List.{AllByRecursion, prefix_len, position_or_len}
use Rattle.std.specs.Prelude.{unwrap_or}
use Rattle.mk_bytes.specs.Agrees.{◌>>=◌}
use Rattle.mk_values.specs.Texts.{parsed}
use Rattle.mk_values.specs.Value.{value}
use Rattle.mk_values.specs.declared.facts.Asked.{Asked}
use Rattle.mk_values.specs.declared.fault.ExpandFault.{ExpandFault}
use Rattle.mk_values.specs.declared.local.Locals.{Locals}
use Rattle.mk_meta.specs.Lawful.{is_command}
use Rattle.mk_plan.specs.Plans.{node_at}
use Rattle.mk_plan.specs.Tasks.{Setting, at_line, is_mark, is_no_mark, line_of, line_of_tree, lines_from, locals_of, manner_of, marks_len, task_with}
use Rattle.mk_plan.specs.declared.tasks.Manner.{Manner}
use Rattle.mk_world.specs.Looks.{Seen}
use Rattle.mk_world.specs.declared.command.Task.{Task}
use Rattle.mk_world.specs.declared.command.TaskLine.{TaskLine}
use Rattle.mk_decision.specs.Decisions.{Work, IsBegun, newer_of, setting_by}
use Rattle.mk_trace.proofs.TrueTexts.{all-last}

-- behind the marks stands a command

abbrev goes_on : ℕ → Bool
goes_on byte = not (is_no_mark byte)

first-command : (byte : ℕ) (text : List ℕ) → goes_on byte ≡ false → is_command (byte ∷ text) ≡ true
first-command byte text is = by (is_mark byte) is
  where
    by : (b : Bool) → not (not b) ≡ false → not b ≡ true
    by true is = absurd cc
    by false is = refl

prefix-command : (text : List ℕ) → is_command (drop (prefix_len goes_on text) text) ≡ true
prefix-command [] = refl
prefix-command (byte ∷ text) =
    cond_both (goes_on byte) (1 + prefix_len goes_on text) 0
    (λ n. is_command (drop n (byte ∷ text)) ≡ true)
    (λ more.
    let next : suc (prefix_len goes_on text) ≡ 1 + prefix_len goes_on text = omega arith in
    subst (λ n. is_command (drop n (byte ∷ text)) ≡ true) next (prefix-command text))
    (λ over. first-command byte text over)

prefix-within : (text : List ℕ) → prefix_len goes_on text ≤ length text
prefix-within [] = omega arith
prefix-within (byte ∷ text) =
    let rest = prefix-within text in
    cond_both (goes_on byte) (1 + prefix_len goes_on text) 0 (λ n. n ≤ length (byte ∷ text))
    (λ more. omega (arith, rest)) (λ over. omega arith)

marks-are : (text : List ℕ) → marks_len text ≡ prefix_len goes_on text
marks-are text =
    cond_both (nat_lt (position_or_len is_no_mark text) (length text))
    (Some (position_or_len is_no_mark text)) None
    (λ found. unwrap_or found (length text) ≡ prefix_len goes_on text) (λ less. refl)
    (λ over.
    let within = prefix-within text in
    grind (arith, nat_tests, common_steps))

marks-command : (text : List ℕ) → is_command (drop (marks_len text) text) ≡ true
marks-command text =
    subst (λ n. is_command (drop n text) ≡ true) (sym (marks-are text)) (prefix-command text)

-- the lines of a node, expanded

bound : {A B E : Type 0} (given : Result A E) (next : A → Result B E) (last : B)
    → (given >>= next) ≡ Ok last → (first : A) × (given ≡ Ok first) × (next first ≡ Ok last)
bound (Ok first) next last is = (first, refl, is)
bound (Err fault) next last is = absurd cc

same-ok : {A E : Type 0} (one other : A) → ◌≡◌ {A = Result A E} (Ok one) (Ok other) → one ≡ other
same-ok one other is = cc

line-command : (k : Setting) (locals : Locals) (manner : Manner) (asked : List Asked) (raw : List ℕ)
    (line : TaskLine × List Asked) → line_of k locals manner asked raw ≡ Ok line
    → is_command line.0.text ≡ true
line-command k locals manner asked raw line is =
    let tree = bound (parsed raw) (line_of_tree k locals manner asked) line is in
    let found = bound (value k.variables locals k.lists k.answers false asked tree.0) _ line tree.2 in
    subst (λ (l : TaskLine × List Asked). is_command l.0.text ≡ true) (same-ok _ line found.2)
    (marks-command found.0.0)

at-line : (number : ℕ) (given : Result (TaskLine × List Asked) ExpandFault) (line : TaskLine × List Asked)
    → at_line number given ≡ Ok line → given ≡ Ok line
at-line number (Ok one) line is = ap Ok (same-ok one line is)
at-line number (Err what) line is = absurd cc

abbrev pub AreCommands : List TaskLine → Type 0
AreCommands = AllByRecursion (λ line. is_command line.text ≡ true)

lines-commands : (k : Setting) (locals : Locals) (manner : Manner) (lines : List TaskLine) (number : ℕ)
    (asked : List Asked) (raws : List (List ℕ)) (all : List TaskLine × List Asked)
    → lines_from k locals manner lines number asked raws ≡ Ok all → AreCommands lines → AreCommands all.0
unfolding lines_from
lines-commands k locals manner lines number asked [] all is are =
    subst (λ (l : List TaskLine × List Asked). AreCommands l.0) (same-ok (lines, asked) all is) are
lines-commands k locals manner lines number asked (raw ∷ raws) all is are =
    let first = bound (at_line number (line_of k locals manner asked raw))
    (λ line. lines_from k locals manner (lines ++ line.0 ∷ []) (number + 1) line.1 raws) all is in
    lines-commands k locals manner (lines ++ first.0.0 ∷ []) (number + 1) first.0.1 raws all first.2
    (all-last (λ (line : TaskLine). is_command line.text ≡ true) lines first.0.0 are
    (line-command k locals manner asked raw first.0 (at-line number _ first.0 first.1)))

-- Where a job begins, its lines are commands.
pub begun-commands : (work : Work) (node : ℕ) (seen : List Seen) (lines : List TaskLine)
    → IsBegun work node seen lines → AreCommands lines
begun-commands work node seen lines begun =
    let sight = begun.2.sight in
    let all = bound
    (lines_from (setting_by work sight.asked)
    (locals_of work.suffixes work.plan node (newer_of work node sight.target sight.sources))
    (manner_of work.mode work.flags (node_at work.plan node).marks) [] 1 []
    (node_at work.plan node).commands)
    (λ (made : List TaskLine × List Asked).
    Ok (task_with work.variables work.mode.exports (node_at work.plan node).name made.0, made.1)) _ begun.2.has in
    subst AreCommands
    (ap (λ (made : Task × List Asked). made.0.lines) (same-ok _ _ all.2) ∙ sym begun.3)
    (lines-commands (setting_by work sight.asked)
    (locals_of work.suffixes work.plan node (newer_of work node sight.target sight.sources))
    (manner_of work.mode work.flags (node_at work.plan node).marks) [] 1 []
    (node_at work.plan node).commands all.0 all.1 tt)
