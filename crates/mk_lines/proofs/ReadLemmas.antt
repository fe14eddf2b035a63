-- A logical line that is read one physical line at a time.
use Rattle.std.proofs.Common.{◌≡◌, ℕ, ◌+◌, true, false, List, [], ◌∷◌, ◌++◌, length, refl, arith}
use Rattle.std.proofs.Common.{append_assoc, add-zero}
use Rattle.mk_bytes.specs.Bytes.{space}
use Rattle.mk_lines.specs.declared.line.LogLine.{LogLine}
use Rattle.mk_lines.specs.Lines.{is_continued, without_last, without_indent, line_groups, joined}
use Rattle.mk_lines.specs.Lines.{lines_of}
use Rattle.mk_lines.proofs.GroupLemmas.{continuing, behind, line_groups-first, continuing-closed}
use Rattle.mk_lines.proofs.GroupLemmas.{behind-closed, is_continued-without_indent}

-- The logical lines, where a text is read of the first that begins at this number, then the piece
-- of the physical line `done` comes, and then the rest.
unfoldable pub reading : ℕ → List ℕ → List ℕ → ℕ → List (List ℕ) → List LogLine
reading number text piece done rest =
    let more = continuing (is_continued piece) rest in
    record { first = number; text = text ++ joined piece more }
    ∷ lines_of (done + 1 + length more) (line_groups (behind (is_continued piece) rest))

pub reading-begins : (number : ℕ) (line : List ℕ) (rest : List (List ℕ))
    → lines_of number (line_groups (line ∷ rest)) ≡ reading number [] line number rest
unfolding reading
reading-begins number line rest =
    let more = continuing (is_continued line) rest in
    let counted : number + length (line ∷ more) ≡ number + 1 + length more = omega arith in
    rw (line_groups-first line rest, counted) refl

-- a continued line goes into the text, and the next line is the piece
pub reading-continues : (number : ℕ) (text piece next : List ℕ) (done : ℕ) (rest : List (List ℕ))
    → is_continued piece ≡ true
    → reading number text piece done (next ∷ rest)
    ≡ reading number (text ++ without_last piece ++ space ∷ []) (without_indent next)
    (done + 1) rest
unfolding reading continuing behind joined
reading-continues number text piece next done rest continues =
    let more = continuing (is_continued next) rest in
    let counted : done + 1 + length (next ∷ more) ≡ done + 1 + 1 + length more = omega arith in
    rw (continues, is_continued-without_indent next, counted) (simp append_assoc)

-- the text ends in a continued line
pub reading-ends : (number : ℕ) (text piece : List ℕ) (done : ℕ) → is_continued piece ≡ true
    → reading number text piece done []
    ≡ record { first = number; text = text ++ without_last piece } ∷ []
unfolding reading continuing behind joined line_groups
reading-ends number text piece done continues = rw continues refl

-- the logical line ends in a line that is not continued
pub reading-stops : (number : ℕ) (text piece : List ℕ) (done : ℕ) (rest : List (List ℕ))
    → is_continued piece ≡ false
    → reading number text piece done rest
    ≡ record { first = number; text = text ++ piece } ∷ lines_of (done + 1) (line_groups rest)
unfolding reading joined
reading-stops number text piece done rest stops =
    rw (stops, continuing-closed rest, behind-closed rest, stops, add-zero) refl
