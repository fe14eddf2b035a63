-- The turns of a loop (make(1), the directive `.for`).
use Rattle.std.specs.Prelude.{ℕ, ◌*◌, ◌/◌, ◌%◌, ◌==◌, List, length, take, drop, map, if◌then◌else◌}
use Rattle.std.specs.Prelude.{Result, Ok, Err}
use Rattle.std.specs.List.{range_with_len}
use Rattle.mk_lines.specs.declared.line.LogLine.{LogLine}
use Rattle.mk_for.specs.declared.unrolling.ForFault.{ForFault}
use Rattle.mk_for.specs.declared.unrolling.ForFault.TheVariants.{Count}
use Rattle.mk_for.specs.Substitution.{replaced}

-- a line of a turn, with the number that it has in the body
abbrev pub line_in : List (List ℕ) → List (List ℕ) → LogLine → LogLine
line_in names words line = record { first = line.first; text = replaced names words line.text }

-- the words of a turn, counted from 0: as many as there are names, behind those of earlier turns
abbrev pub words_of : ℕ → List (List ℕ) → ℕ → List (List ℕ)
words_of count words k = take count (drop (k * count) words)

-- The body of a turn.
abbrev pub body_of : List LogLine → List (List ℕ) → List (List ℕ) → ℕ → List LogLine
body_of body names words k = map (line_in names (words_of (length names) words k)) body

-- how many turns there are
abbrev pub turns : List (List ℕ) → List (List ℕ) → ℕ
turns names words = length words / length names

-- The bodies of all turns in order.
abbrev pub bodies : List LogLine → List (List ℕ) → List (List ℕ) → List (List LogLine)
bodies body names words = map (body_of body names words) (range_with_len 0 (turns names words))

-- There are no turns where words are left over.
abbrev pub unrolled : List LogLine → List (List ℕ) → List (List ℕ)
    → Result (List (List LogLine)) ForFault
unrolled body names words =
    if length words % length names == 0 then Ok (bodies body names words)
    else Err (Count (length words) (length names))
