-- An evaluation is by the answers to the paths that it asks `exists` of.
use Rattle.std.specs.Prelude.{◌≡◌, ℕ, Bool, not, List, ◌∷◌, ◌++◌, length}
use Rattle.mk_ast.specs.Tree.{Tree}
use Rattle.mk_cond.specs.Cond.{Cond}
use Rattle.mk_scopes.specs.Scopes.{Variables}
use Rattle.mk_values.specs.Facts.{AnsweredBy, Answers, Lists}
use Rattle.mk_values.specs.Value.{of_condition, of_tree, questions_of}
use Rattle.mk_values.specs.declared.facts.Asked.{Asked}
use Rattle.mk_values.specs.declared.local.Locals.{Locals}

-- Other answers that agree with the questions of a tree, and with those before it, give the same
-- value or fault, with the same questions.
abbrev pub TreesAreByAnswers : Type 0
TreesAreByAnswers =
    (variables : Variables) (locals : Locals) (lists : Lists) (answers other : Answers) (keep : Bool)
    (asked : List Asked) (tree : Tree)
    → AnsweredBy other (questions_of (of_tree variables locals lists answers keep asked tree).answer)
    → of_tree variables locals lists other keep asked tree
    ≡ of_tree variables locals lists answers keep asked tree

-- The same of a condition.
abbrev pub ConditionsAreByAnswers : Type 0
ConditionsAreByAnswers =
    (variables : Variables) (locals : Locals) (lists : Lists) (answers other : Answers) (asked : List Asked)
    (cond : Cond)
    → AnsweredBy other (questions_of (of_condition variables locals lists answers asked cond).answer)
    → of_condition variables locals lists other asked cond
    ≡ of_condition variables locals lists answers asked cond

abbrev pub ValuesAreByAnswers : Type 0
ValuesAreByAnswers = TreesAreByAnswers × ConditionsAreByAnswers

-- Two evaluations part at a question: what they asked before it is the same, with the same answers;
-- they ask it of one path, and are answered differently, the first by these answers.
pub record PartAtQuestion (answers : Answers) (one other : List Asked) : Type 0 where
  pub common : List Asked
  pub path : List ℕ
  pub answer : Bool
  pub rest : List Asked
  pub other_rest : List Asked
  pub is : one ≡ common ++ record { path = path; answer = answer } ∷ rest
  pub other_is : other ≡ common ++ record { path = path; answer = not answer } ∷ other_rest
  pub answered : answer ≡ answers (length common) path
