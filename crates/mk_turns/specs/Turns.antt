-- The turns of loops, and lines in them.
use Rattle.std.specs.Prelude.{ℕ, zero, suc, ◌/◌, List, [], ◌∷◌, length, Result, Ok}
use Rattle.mk_bytes.specs.Agrees.{◌>>=◌}
use Rattle.mk_lines.specs.Faults.{max_len}
use Rattle.mk_for.specs.Substitution.{replaced, within}
use Rattle.mk_for.specs.declared.substitution.TurnFault.{TurnFault}
use Rattle.mk_for.specs.Turns.{words_of}

-- the names of a loop, with the words that they stand for in one turn
pub record Turn : Type 0 where
  pub names : List (List ℕ)
  pub words : List (List ℕ)

-- A text inside these turns, the outermost first. In each of them it keeps to what a line may have.
abbrev pub in_turns : List Turn → List ℕ → Result (List ℕ) TurnFault
in_turns [] text = Ok text
in_turns (turn ∷ turns) text =
    within max_len (replaced turn.names turn.words text) >>= in_turns turns

-- the turn of a loop at this place, counted from 0
abbrev pub turn_at : List (List ℕ) → List (List ℕ) → ℕ → Turn
turn_at names words k = record { names = names; words = words_of (length names) words k }

-- so many turns of a loop, from this place on
unfoldable pub turns_from : List (List ℕ) → List (List ℕ) → ℕ → ℕ → List Turn
turns_from names words k zero = []
turns_from names words k (suc count) = turn_at names words k ∷ turns_from names words (suc k) count

abbrev pub turn_count : List (List ℕ) → List (List ℕ) → ℕ
turn_count names words = length words / length names

-- The turns of a loop: each takes as many words as there are names.
abbrev pub loop_turns : List (List ℕ) → List (List ℕ) → List Turn
loop_turns names words = turns_from names words 0 (turn_count names words)
