-- Tasks are by the answers to what they ask.
use Rattle.std.proofs.Common.{◌≡◌, ◌⊎◌, ◌∙◌, ℕ, ◌+◌, false, not, List, [], ◌∷◌, ◌++◌, Result, Ok, Err}
use Rattle.std.proofs.Common.{refl, sym, ap, subst, inl, inr}
use Rattle.mk_ast.specs.Tree.{Tree}
use Rattle.mk_bytes.specs.Agrees.{◌>>=◌}
use Rattle.mk_values.specs.Evaluators.{Answer, Counted}
use Rattle.mk_values.specs.Facts.{AnsweredBy, Answers, AsksMore}
use Rattle.mk_values.specs.Texts.{parsed}
use Rattle.mk_values.specs.Value.{of_tree, questions_of, value, with_asked}
use Rattle.mk_values.specs.declared.facts.Asked.{Asked}
use Rattle.mk_values.specs.declared.fault.ExpandFault.{ExpandFault}
use Rattle.mk_values.specs.declared.local.Locals.{Locals}
use Rattle.mk_plan.specs.Newer.{line_names, names_behind, names_from, tree_names}
use Rattle.mk_plan.specs.Oodate.{refers}
use Rattle.mk_plan.specs.Plans.{node_at}
use Rattle.mk_plan.specs.Tasks.{Setting, at_line, line_as, line_of, line_of_tree, lines_from, locals_of, manner_of, task_with}
use Rattle.mk_plan.specs.declared.fault.TaskFault.{TaskFault}
use Rattle.mk_plan.specs.declared.tasks.Manner.{Manner}
use Rattle.mk_world.specs.declared.command.TaskLine.{TaskLine}
use Rattle.mk_answers.proofs.AnswerLemmas.{tree-same}
use Rattle.mk_answers.proofs.SameLemmas.{asks-same, asks-then, part-longer}
use Rattle.mk_answers.specs.Evaluations.{PartAtQuestion}
use Rattle.mk_same.specs.Answered.{TaskNamesAreByAnswers, TasksAreByAnswers, TasksPartAtQuestions, with_answers}

same-ok : {A E : Type 0} (one other : A) → ◌≡◌ {A = Result A E} (Ok one) (Ok other) → one ≡ other
same-ok one other is = cc

bound : {A B E : Type 0} (given : Result A E) (next : A → Result B E) (last : B)
    → (given >>= next) ≡ Ok last → (first : A) × (given ≡ Ok first) × (next first ≡ Ok last)
bound (Ok first) next last is = (first, refl, is)
bound (Err fault) next last is = absurd cc

-- the questions behind what is found
asked-behind : {A : Type 0} (answer : Answer A) (found : A × List Asked) → with_asked answer ≡ Ok found
    → questions_of answer ≡ found.1
asked-behind {A = A} (Ok got) found is = ap (λ (it : A × List Asked). it.1) (same-ok (got.0, got.1.asked) found is)
asked-behind {A = A} (Err fault) found is = absurd cc

-- a part of a task is the same by other answers that agree with its questions, and so are they with those before it
abbrev IsSame : {A E : Type 0} → Answers → List Asked → Result (A × List Asked) E → Result (A × List Asked) E → Type 0
IsSame {A} {E} other asked one again =
    (all : A × List Asked) → one ≡ Ok all → AnsweredBy other all.1 → (again ≡ Ok all) × AnsweredBy other asked

tree-line : (k : Setting) (other : Answers) (locals : Locals) (manner : Manner) (asked : List Asked) (tree : Tree)
    → IsSame other asked (line_of_tree k locals manner asked tree)
    (line_of_tree (with_answers other k) locals manner asked tree)
tree-line k other locals manner asked tree line is answered =
    let found = bound (value k.variables locals k.lists k.answers false asked tree)
    (λ (v : List ℕ × List Asked). Ok (line_as manner (not (refers tree)) v.0, v.1)) line is in
    let last : found.0.1 ≡ line.1 =
    ap (λ (it : TaskLine × List Asked). it.1) (same-ok _ line found.2) in
    let questions = asked-behind (of_tree k.variables locals k.lists k.answers false asked tree).answer found.0
    found.1 in
    let fits = subst (AnsweredBy other) (sym (questions ∙ last)) answered in
    let same = tree-same k.variables locals k.lists k.answers other false asked tree in (
      ap (λ (it : Result (List ℕ × List Asked) ExpandFault).
          it >>= λ (v : List ℕ × List Asked). Ok (line_as manner (not (refers tree)) v.0, v.1))
          (ap (λ counted. with_asked counted.answer) (same.same fits)) ∙ is,
      same.more fits,
    )

text-line : (k : Setting) (other : Answers) (locals : Locals) (manner : Manner) (asked : List Asked) (raw : List ℕ)
    → IsSame other asked (line_of k locals manner asked raw) (line_of (with_answers other k) locals manner asked raw)
text-line k other locals manner asked raw = by (parsed raw)
  where
    by : (tree : Result Tree ExpandFault)
        → IsSame other asked (tree >>= line_of_tree k locals manner asked)
        (tree >>= line_of_tree (with_answers other k) locals manner asked)
    by (Ok tree) line is answered = tree-line k other locals manner asked tree line is answered
    by (Err fault) line is answered = absurd cc

numbered : (number : ℕ) (other : Answers) (asked : List Asked) (one again : Result (TaskLine × List Asked) ExpandFault)
    → IsSame other asked one again → IsSame other asked (at_line number one) (at_line number again)
numbered number other asked (Ok found) again same line is answered =
    let here = same line (ap Ok (same-ok found line is)) answered in (ap (at_line number) here.0, here.1)
numbered number other asked (Err fault) again same line is answered = absurd cc

lines-same : (k : Setting) (other : Answers) (locals : Locals) (manner : Manner) (lines : List TaskLine) (number : ℕ)
    (asked : List Asked) (raws : List (List ℕ))
    → IsSame other asked (lines_from k locals manner lines number asked raws)
    (lines_from (with_answers other k) locals manner lines number asked raws)
unfolding lines_from
lines-same k other locals manner lines number asked [] all is answered = (
  is,
  subst (AnsweredBy other) (ap (λ (it : List TaskLine × List Asked). it.1) (sym (same-ok (lines, asked) all is)))
      answered,
)
lines-same k other locals manner lines number asked (raw ∷ raws) all is answered =
    let first = bound (at_line number (line_of k locals manner asked raw))
    (λ line. lines_from k locals manner (lines ++ line.0 ∷ []) (number + 1) line.1 raws) all is in
    let rest = lines-same k other locals manner (lines ++ first.0.0 ∷ []) (number + 1) first.0.1 raws all first.2
    answered in
    let here = numbered number other asked (line_of k locals manner asked raw)
    (line_of (with_answers other k) locals manner asked raw) (text-line k other locals manner asked raw) first.0
    first.1 rest.1 in (
      ap (λ (it : Result (TaskLine × List Asked) TaskFault). it
          >>= λ line. lines_from (with_answers other k) locals manner (lines ++ line.0 ∷ []) (number + 1) line.1 raws)
          here.0 ∙ rest.0,
      here.1,
    )

pub tasks_are_by_answers : TasksAreByAnswers
tasks_are_by_answers k other suffixes nodes n newer mode flags asked task is answered =
    let locals = locals_of suffixes nodes n newer in
    let manner = manner_of mode flags (node_at nodes n).marks in
    let made = bound (lines_from k locals manner [] 1 asked (node_at nodes n).commands)
    (λ (lines : List TaskLine × List Asked). Ok (task_with k.variables mode.exports (node_at nodes n).name lines.0, lines.1)) task
    is in
    let last : made.0.1 ≡ task.1 = ap (λ it. it.1) (same-ok _ task made.2) in
    let same = lines-same k other locals manner [] 1 asked (node_at nodes n).commands made.0 made.1
    (subst (AnsweredBy other) (sym last) answered) in
    ap (λ (it : Result (List TaskLine × List Asked) TaskFault). it
    >>= λ (lines : List TaskLine × List Asked). Ok (task_with k.variables mode.exports (node_at nodes n).name lines.0, lines.1))
    same.0 ∙ made.2

-- The names that are looked up

at-line-is : (number : ℕ) (line : Result (TaskLine × List Asked) ExpandFault) (found : TaskLine × List Asked)
    → at_line number line ≡ Ok found → line ≡ Ok found
at-line-is number (Ok got) found is = ap Ok (same-ok got found is)
at-line-is number (Err fault) found is = absurd cc

tree-names : (k : Setting) (other : Answers) (locals : Locals) (manner : Manner) (asked : List Asked) (tree : Tree)
    (line : TaskLine × List Asked) → line_of_tree k locals manner asked tree ≡ Ok line → AnsweredBy other line.1
    → tree_names (with_answers other k) locals asked (Ok tree) ≡ tree_names k locals asked (Ok tree)
tree-names k other locals manner asked tree line is answered =
    let found = bound (value k.variables locals k.lists k.answers false asked tree)
    (λ (v : List ℕ × List Asked). Ok (line_as manner (not (refers tree)) v.0, v.1)) line is in
    let last : found.0.1 ≡ line.1 =
    ap (λ (it : TaskLine × List Asked). it.1) (same-ok _ line found.2) in
    let questions = asked-behind (of_tree k.variables locals k.lists k.answers false asked tree).answer found.0
    found.1 in
    ap (λ counted. counted.names [])
    ((tree-same k.variables locals k.lists k.answers other false asked tree).same
    (subst (AnsweredBy other) (sym (questions ∙ last)) answered))

line-names : (k : Setting) (other : Answers) (locals : Locals) (manner : Manner) (asked : List Asked) (raw : List ℕ)
    (line : TaskLine × List Asked) → line_of k locals manner asked raw ≡ Ok line → AnsweredBy other line.1
    → line_names (with_answers other k) locals asked raw ≡ line_names k locals asked raw
line-names k other locals manner asked raw line is answered = by (parsed raw) is
  where
    by : (tree : Result Tree ExpandFault) → (tree >>= line_of_tree k locals manner asked) ≡ Ok line
        → tree_names (with_answers other k) locals asked tree ≡ tree_names k locals asked tree
    by (Ok tree) here = tree-names k other locals manner asked tree line here answered
    by (Err fault) here = refl

names-same : (k : Setting) (other : Answers) (locals : Locals) (manner : Manner) (lines : List TaskLine) (number : ℕ)
    (asked : List Asked) (raws : List (List ℕ)) (all : List TaskLine × List Asked)
    → lines_from k locals manner lines number asked raws ≡ Ok all → AnsweredBy other all.1
    → (names_from (with_answers other k) locals manner asked raws ≡ names_from k locals manner asked raws)
    × AnsweredBy other asked
unfolding lines_from names_from
names-same k other locals manner lines number asked [] all is answered = (
  refl,
  subst (AnsweredBy other) (ap (λ (it : List TaskLine × List Asked). it.1) (sym (same-ok (lines, asked) all is)))
      answered,
)
names-same k other locals manner lines number asked (raw ∷ raws) all is answered =
    let first = bound (at_line number (line_of k locals manner asked raw))
    (λ line. lines_from k locals manner (lines ++ line.0 ∷ []) (number + 1) line.1 raws) all is in
    let line_is = at-line-is number (line_of k locals manner asked raw) first.0 first.1 in
    let rest = names-same k other locals manner (lines ++ first.0.0 ∷ []) (number + 1) first.0.1 raws all first.2
    answered in
    let again = text-line k other locals manner asked raw first.0 line_is rest.1 in (
      ap (λ l. l ++ names_behind (line_of (with_answers other k) locals manner asked raw)
          (λ now. names_from (with_answers other k) locals manner now raws))
          (line-names k other locals manner asked raw first.0 line_is rest.1)
          ∙ ap (λ l. line_names k locals asked raw ++ l)
          (ap (λ it. names_behind it (λ now. names_from (with_answers other k) locals manner now raws)) again.0
          ∙ (rest.0 ∙ ap (λ it. names_behind it (λ now. names_from k locals manner now raws)) (sym line_is))),
      again.1,
    )

pub task_names_are_by_answers : TaskNamesAreByAnswers
task_names_are_by_answers k other suffixes nodes n newer mode flags asked task is answered =
    let locals = locals_of suffixes nodes n newer in
    let manner = manner_of mode flags (node_at nodes n).marks in
    let made = bound (lines_from k locals manner [] 1 asked (node_at nodes n).commands)
    (λ (lines : List TaskLine × List Asked). Ok (task_with k.variables mode.exports (node_at nodes n).name lines.0, lines.1)) task
    is in
    let last : made.0.1 ≡ task.1 = ap (λ it. it.1) (same-ok _ task made.2) in
    (names-same k other locals manner [] 1 asked (node_at nodes n).commands made.0 made.1
    (subst (AnsweredBy other) (sym last) answered)).0

-- Parts of tasks by any answers: both ask more than before, and they are the same, or part at a question.

record Parted (answers : Answers) (asked : List Asked) {A : Type 0} (first second : A × List Asked) : Type 0 where
  pub first_more : AsksMore asked first.1
  pub second_more : AsksMore asked second.1
  pub parts : (second ≡ first) ⊎ PartAtQuestion answers first.1 second.1

abbrev ArePart : {A E : Type 0} → Answers → List Asked → Result (A × List Asked) E → Result (A × List Asked) E → Type 0
ArePart {A} {E} answers asked one again =
    (first second : A × List Asked) → one ≡ Ok first → again ≡ Ok second → Parted answers asked first second

answers-part : {A : Type 0} (answers : Answers) (asked : List Asked) (one again : Answer A)
    → AsksMore asked (questions_of one) → AsksMore asked (questions_of again)
    → (again ≡ one) ⊎ PartAtQuestion answers (questions_of one) (questions_of again)
    → ArePart answers asked (with_asked one) (with_asked again)
answers-part {A} answers asked (Ok v) (Ok w) more other_more parts first second is other_is =
    subst (λ it. Parted answers asked it second) (same-ok (v.0, v.1.asked) first is)
    (subst (λ it. Parted answers asked (v.0, v.1.asked) it) (same-ok (w.0, w.1.asked) second other_is)
    (record { first_more = more; second_more = other_more; parts = found parts }))
  where
    found : (◌≡◌ {A = Answer A} (Ok w) (Ok v)) ⊎ PartAtQuestion answers v.1.asked w.1.asked
        → (◌≡◌ {A = A × List Asked} (w.0, w.1.asked) (v.0, v.1.asked)) ⊎ PartAtQuestion answers v.1.asked w.1.asked
    found (inl same) = inl (ap (λ it. (it.0, it.1.asked)) (same-ok w v same))
    found (inr part) = inr part
answers-part answers asked (Ok v) (Err fault) more other_more parts first second is other_is = absurd cc
answers-part answers asked (Err fault) again more other_more parts first second is other_is = absurd cc

mapped-part : {A B E : Type 0} (answers : Answers) (asked : List Asked) (one again : Result (A × List Asked) E) (f : A → B)
    → ArePart answers asked one again
    → ArePart answers asked (one >>= λ (v : A × List Asked). Ok (f v.0, v.1)) (again >>= λ (v : A × List Asked). Ok (f v.0, v.1))
mapped-part {A} {B} {E} answers asked (Ok v) (Ok w) f part first second is other_is =
    subst (λ it. Parted answers asked it second) (same-ok (f v.0, v.1) first is)
    (subst (λ it. Parted answers asked (f v.0, v.1) it) (same-ok (f w.0, w.1) second other_is)
    (mapped (part v w refl refl)))
  where
    both : (w ≡ v) ⊎ PartAtQuestion answers v.1 w.1
        → (◌≡◌ {A = B × List Asked} (f w.0, w.1) (f v.0, v.1)) ⊎ PartAtQuestion answers v.1 w.1
    both (inl same) = inl (ap (λ it. (f it.0, it.1)) same)
    both (inr apart) = inr apart

    mapped : Parted answers asked v w → Parted answers asked (f v.0, v.1) (f w.0, w.1)
    mapped is = record { first_more = is.first_more; second_more = is.second_more; parts = both is.parts }
mapped-part answers asked (Ok v) (Err fault) f part first second is other_is = absurd cc
mapped-part answers asked (Err fault) again f part first second is other_is = absurd cc

tree-part : (k : Setting) (other : Answers) (locals : Locals) (manner : Manner) (asked : List Asked) (tree : Tree)
    → ArePart k.answers asked (line_of_tree k locals manner asked tree)
    (line_of_tree (with_answers other k) locals manner asked tree)
tree-part k other locals manner asked tree =
    let same = tree-same k.variables locals k.lists k.answers other false asked tree in
    mapped-part k.answers asked (value k.variables locals k.lists k.answers false asked tree)
    (value k.variables locals k.lists other false asked tree) (line_as manner (not (refers tree)))
    (answers-part k.answers asked (of_tree k.variables locals k.lists k.answers false asked tree).answer
    (of_tree k.variables locals k.lists other false asked tree).answer same.first_more same.second_more
    (answered same.parts))
  where
    answered : {A : Type 0} {one again : Counted A}
        → (again ≡ one) ⊎ PartAtQuestion k.answers (questions_of one.answer) (questions_of again.answer)
        → (again.answer ≡ one.answer) ⊎ PartAtQuestion k.answers (questions_of one.answer) (questions_of again.answer)
    answered (inl same) = inl (ap (λ counted. counted.answer) same)
    answered (inr part) = inr part

text-part : (k : Setting) (other : Answers) (locals : Locals) (manner : Manner) (asked : List Asked) (raw : List ℕ)
    → ArePart k.answers asked (line_of k locals manner asked raw) (line_of (with_answers other k) locals manner asked raw)
text-part k other locals manner asked raw = by (parsed raw)
  where
    by : (tree : Result Tree ExpandFault)
        → ArePart k.answers asked (tree >>= line_of_tree k locals manner asked)
        (tree >>= line_of_tree (with_answers other k) locals manner asked)
    by (Ok tree) = tree-part k other locals manner asked tree
    by (Err fault) = λ first second is other_is. absurd cc

numbered-part : (answers : Answers) (number : ℕ) (asked : List Asked) (one again : Result (TaskLine × List Asked) ExpandFault)
    → ArePart answers asked one again → ArePart answers asked (at_line number one) (at_line number again)
numbered-part answers number asked (Ok v) (Ok w) part first second is other_is =
    part first second (ap Ok (same-ok v first is)) (ap Ok (same-ok w second other_is))
numbered-part answers number asked (Ok v) (Err fault) part first second is other_is = absurd cc
numbered-part answers number asked (Err fault) again part first second is other_is = absurd cc

lines-part : (k : Setting) (other : Answers) (locals : Locals) (manner : Manner) (lines : List TaskLine) (number : ℕ)
    (asked : List Asked) (raws : List (List ℕ))
    → ArePart k.answers asked (lines_from k locals manner lines number asked raws)
    (lines_from (with_answers other k) locals manner lines number asked raws)
unfolding lines_from
lines-part k other locals manner lines number asked [] first second is other_is =
    subst (λ it. Parted k.answers asked it second) (same-ok (lines, asked) first is)
    (subst (λ it. Parted k.answers asked (lines, asked) it) (same-ok (lines, asked) second other_is)
    (record { first_more = asks-same asked; second_more = asks-same asked; parts = inl refl }))
lines-part k other locals manner lines number asked (raw ∷ raws) first second is other_is =
    let one = bound (at_line number (line_of k locals manner asked raw))
    (λ line. lines_from k locals manner (lines ++ line.0 ∷ []) (number + 1) line.1 raws) first is in
    let two = bound (at_line number (line_of (with_answers other k) locals manner asked raw))
    (λ line. lines_from (with_answers other k) locals manner (lines ++ line.0 ∷ []) (number + 1) line.1 raws) second
    other_is in
    by one.0 two.0
    (numbered-part k.answers number asked (line_of k locals manner asked raw)
    (line_of (with_answers other k) locals manner asked raw) (text-part k other locals manner asked raw) one.0 two.0
    one.1 two.1)
    (lines-part k k.answers locals manner (lines ++ one.0.0 ∷ []) (number + 1) one.0.1 raws first first one.2
    one.2).first_more
    (lines-part (with_answers other k) other locals manner (lines ++ two.0.0 ∷ []) (number + 1) two.0.1 raws second
    second two.2 two.2).first_more
    (λ same. lines-part k other locals manner (lines ++ one.0.0 ∷ []) (number + 1) one.0.1 raws first second one.2
    (subst (λ (it : TaskLine × List Asked). lines_from (with_answers other k) locals manner (lines ++ it.0 ∷ [])
    (number + 1) it.1 raws ≡ Ok second) same two.2))
  where
    by : (line again : TaskLine × List Asked) → Parted k.answers asked line again → AsksMore line.1 first.1
        → AsksMore again.1 second.1 → (again ≡ line → Parted k.answers line.1 first second)
        → Parted k.answers asked first second
    by line again parted own others rest = both parted.parts
      where
        both : (again ≡ line) ⊎ PartAtQuestion k.answers line.1 again.1 → Parted k.answers asked first second
        both (inl same) =
            let behind = rest same in
            record {
              first_more = asks-then parted.first_more behind.first_more;
              second_more = asks-then parted.first_more behind.second_more;
              parts = behind.parts;
            }
        both (inr part) = record {
          first_more = asks-then parted.first_more own;
          second_more = asks-then parted.second_more others;
          parts = inr (part-longer part own others);
        }

pub tasks_part_at_questions : TasksPartAtQuestions
tasks_part_at_questions k other suffixes nodes n newer mode flags asked task again is other_is =
    let locals = locals_of suffixes nodes n newer in
    let manner = manner_of mode flags (node_at nodes n).marks in
    (mapped-part k.answers asked (lines_from k locals manner [] 1 asked (node_at nodes n).commands)
    (lines_from (with_answers other k) locals manner [] 1 asked (node_at nodes n).commands)
    (task_with k.variables mode.exports (node_at nodes n).name)
    (lines-part k other locals manner [] 1 asked (node_at nodes n).commands) task again is other_is).parts
