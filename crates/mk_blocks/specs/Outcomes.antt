-- What a reading gives: what it does outside, and what it ends with.
use Rattle.std.specs.Prelude.{List, [], ◌++◌, Result, Ok, Err}
use Rattle.mk_blocks.specs.Acts.{Act}

pub record Outcome (A E : Type 0) : Type 0 where
  -- the messages that it writes, and the files, times, listings and commands that it asks for, in
  -- order
  pub acts : List Act
  pub answer : Result A E

-- what is given without an act
abbrev pub silent : {A E : Type 0} → Result A E → Outcome A E
silent answer = record { acts = []; answer = answer }

abbrev pub done : {A E : Type 0} → A → Outcome A E
done given = silent (Ok given)

abbrev pub refused : {A E : Type 0} → E → Outcome A E
refused fault = silent (Err fault)

-- an outcome behind these acts
abbrev pub behind : {A E : Type 0} → List Act → Outcome A E → Outcome A E
behind acts outcome = record { acts = acts ++ outcome.acts; answer = outcome.answer }

-- what follows an answer, or its fault
abbrev pub followed : {A B E : Type 0} → List Act → Result A E → (A → Outcome B E) → Outcome B E
followed acts (Ok given) next = behind acts (next given)
followed acts (Err fault) next = record { acts = acts; answer = Err fault }

-- The second step on what the first one gives, with its acts behind those of the first, or the
-- first one's fault.
infixl 10 ◌>>=◌
abbrev pub ◌>>=◌ : {A B E : Type 0} → Outcome A E → (A → Outcome B E) → Outcome B E
outcome >>= next = followed outcome.acts outcome.answer next
