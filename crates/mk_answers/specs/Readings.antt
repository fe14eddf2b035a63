-- A reading of makefiles is by the answers to what it asks of the outside.
use Rattle.std.specs.Prelude.{◌≡◌, ℕ, ◌+◌, List, [], ◌∷◌, ◌++◌}
use Rattle.mk_blocks.specs.Acts.{Act, wrote, looked, dated, listed, ran}
use Rattle.mk_cli.specs.declared.order.Order.{Order}
use Rattle.mk_makefile.specs.Questions.{Answers}
use Rattle.mk_makefile.specs.Reading.{reading}
use Rattle.mk_scopes.specs.declared.scopes.Env.{Env}

-- how many questions of each sort were asked so far: of times, of files, of directories and of
-- commands
pub record Counts : Type 0 where
  pub dated : ℕ
  pub read : ℕ
  pub listed : ℕ
  pub ran : ℕ

abbrev pub none_so_far : Counts
none_so_far = record { dated = 0; read = 0; listed = 0; ran = 0 }

-- and behind one more act
abbrev pub behind_act : Counts → Act → Counts
behind_act so_far (wrote message) = so_far
behind_act so_far (looked path) = record so_far { read = so_far.read + 1 }
behind_act so_far (dated path) = record so_far { dated = so_far.dated + 1 }
behind_act so_far (listed dir) = record so_far { listed = so_far.listed + 1 }
behind_act so_far (ran cmd) = record so_far { ran = so_far.ran + 1 }

abbrev pub behind_acts : Counts → List Act → Counts
behind_acts so_far [] = so_far
behind_acts so_far (act ∷ acts) = behind_acts (behind_act so_far act) acts

-- both answer an act the same; a message is no question
abbrev pub AnswerAlike : Answers → Answers → Counts → Act → Type 0
AnswerAlike one other so_far (wrote message) = Unit {0}
AnswerAlike one other so_far (looked path) = other.contents so_far.read path
    ≡ one.contents so_far.read path
AnswerAlike one other so_far (dated path) = other.exists so_far.dated path
    ≡ one.exists so_far.dated path
AnswerAlike one other so_far (listed dir) = other.listings so_far.listed dir
    ≡ one.listings so_far.listed dir
AnswerAlike one other so_far (ran cmd) = other.outputs so_far.ran cmd ≡ one.outputs so_far.ran cmd

-- Wherever these acts and those come to one act behind the same ones, both answer it the same.
abbrev pub AreAnsweredAlike : Answers → Answers → Counts → List Act → List Act → Type 0
AreAnsweredAlike one other so_far acts other_acts =
    (common : List Act) (act : Act) (rest other_rest : List Act)
    → acts ≡ common ++ act ∷ rest → other_acts ≡ common ++ act ∷ other_rest
    → AnswerAlike one other (behind_acts so_far common) act

-- Two readings of the same words in the same environment, by any answers, part at a question alone:
-- where they are answered the same as long as they ask the same, they do the same outside and give
-- the same, or the same fault.
abbrev pub ReadingsPartAtQuestions : Type 0
ReadingsPartAtQuestions =
    (one other : Answers) (env : Env) (order : Order)
    → AreAnsweredAlike one other none_so_far (reading one env order).acts (reading other env order).acts
    → reading other env order ≡ reading one env order
