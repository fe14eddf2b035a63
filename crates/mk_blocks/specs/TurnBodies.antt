-- What a turn of a loop reads: the body of that turn.
use Rattle.std.specs.Prelude.{◌≡◌, ℕ, ◌≤◌, List, ◌∷◌, length}
use Rattle.std.specs.List.{AllByRecursion}
use Rattle.mk_lines.specs.Faults.{max_len}
use Rattle.mk_lines.specs.declared.line.LogLine.{LogLine}
use Rattle.mk_for.specs.Substitution.{replaced}
use Rattle.mk_for.specs.Turns.{body_of, words_of}
use Rattle.mk_turns.specs.Turns.{Turn, turn_at}
use Rattle.mk_blocks.specs.Blocks.{parse}
use Rattle.mk_blocks.specs.Languages.{LineMeaning}
use Rattle.mk_blocks.specs.Meaning.{meaning}
use Rattle.mk_blocks.specs.Runs.{Files, Run}
use Rattle.mk_blocks.specs.declared.kind.LineKind.{LineKind}

-- Where the words of a turn make no line a directive and hide none, and no line too long, lines
-- inside this turn and then others mean what the lines of its body mean inside the others.
abbrev pub TurnsReadBodies : {S W : Type 0} → (F : Type 0) → (List ℕ → LineKind) → LineMeaning S W
    → Type 0
TurnsReadBodies {S} {W} F kind_of M =
    (names words : List (List ℕ)) (k : ℕ) (body : List LogLine)
    → ((text : List ℕ)
    → kind_of (replaced names (words_of (length names) words k) text) ≡ kind_of text)
    → AllByRecursion (λ l. length l.text ≤ max_len) (body_of body names words k)
    → (files : Files S W F) (name : List ℕ) (turns : List Turn) (r : Run S)
    → meaning M files name (parse kind_of body).block (turn_at names words k ∷ turns) r
    ≡ meaning M files name (parse kind_of (body_of body names words k)).block turns r
