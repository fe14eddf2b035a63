-- Languages of single lines.
use Rattle.std.specs.Prelude.{ℕ, Bool, List, Option}
use Rattle.mk_turns.specs.Turns.{Turn}
use Rattle.mk_blocks.specs.Outcomes.{Outcome}
use Rattle.mk_blocks.specs.declared.language.IncludedFile.{IncludedFile}

-- What is asked of a line in a state: of the name of its file, its number and its text. It gives an
-- answer and the state behind it, or what is wrong with the line.
abbrev pub Question : Type 0 → Type 0 → Type 0 → Type 0
Question A S W = List ℕ → ℕ → List ℕ → S → Outcome (A × S) W

-- What a language of lines does to a state S, with faults W.
pub record LineMeaning (S W : Type 0) : Type 0 where
  -- what a line does that is neither of the following nor of the blocks
  pub step : Question (Unit {0}) S W
  -- whether the condition of a branch holds
  pub condition : Question Bool S W
  -- the turns of a loop in order
  pub turns : Question (List Turn) S W
  -- the file that is to be included, or none where a missing one is passed over
  pub included : Question (Option IncludedFile) S W
  -- what the end of a file does
  pub closed : S → S
