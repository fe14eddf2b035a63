-- A logical line that is checked one physical line at a time.
use Rattle.std.proofs.Common.{◌≡◌, ℕ, ◌+◌, ◌-◌, ◌==◌, true, false, if◌then◌else◌, List, [], ◌∷◌, ◌++◌, length, Result}
use Rattle.std.proofs.Common.{Ok, Err, refl, arith, length-append, length-take, add-zero, zero-add}
use Rattle.mk_bytes.specs.Bytes.{space}
use Rattle.std.specs.List.{list_any, onto_first}
use Rattle.std.specs.Result.{result_and}
use Rattle.std.proofs.lemmas.Bool.{or_parts}
use Rattle.mk_lines.specs.declared.fault.LineFault.{LineFault}
use Rattle.mk_lines.specs.Lines.{is_continued, is_newline, physical_lines, without_last, without_indent, line_groups, joined}
use Rattle.mk_lines.specs.Faults.{HoldNoZero, holds_zero, zero_checked, zeros_checked, len_checked, groups_checked}
use Rattle.mk_lines.proofs.GroupLemmas.{continuing, behind, line_groups-first, continuing-closed}
use Rattle.mk_lines.proofs.GroupLemmas.{behind-closed, is_continued-without_indent}

-- The first fault, where a logical line that begins at this number has `len` bytes so far, then
-- the piece of the physical line `done` comes, and then the rest.
unfoldable pub checking : ℕ → ℕ → List ℕ → ℕ → List (List ℕ) → Result (Unit {0}) LineFault
checking number len piece done rest =
    let more = continuing (is_continued piece) rest in
    let first = result_and (zeros_checked (done + 1) more)
    (len_checked number (len + length (joined piece more))) in
    result_and first (groups_checked (done + 1 + length more)
    (line_groups (behind (is_continued piece) rest)))

pub checking-begins : (number : ℕ) (line : List ℕ) (rest : List (List ℕ))
    → zero_checked number line ≡ Ok tt
    → groups_checked number (line_groups (line ∷ rest)) ≡ checking number 0 line number rest
unfolding checking
checking-begins number line rest clean =
    let more = continuing (is_continued line) rest in
    let counted : number + length (line ∷ more) ≡ number + 1 + length more = omega arith in
    rw (line_groups-first line rest, clean, counted, zero-add (length (joined line more))) refl

pub checking-first_zero : (number : ℕ) (line : List ℕ) (rest : List (List ℕ)) (fault : LineFault)
    → zero_checked number line ≡ Err fault
    → groups_checked number (line_groups (line ∷ rest)) ≡ Err fault
checking-first_zero number line rest fault zero = rw (line_groups-first line rest, zero) refl

length-without_last : (line : List ℕ) → length (without_last line) ≡ length line - 1
length-without_last line = simp length-take (omega arith)

length-joined : (len : ℕ) (line more : List ℕ)
    → len + length (without_last line ++ space ∷ more) ≡ len + (length line - 1) + 1 + length more
length-joined len line more = simp (length-append, length-take) (omega arith)

-- a continued line is counted without its backslash, and a space is
pub checking-continues : (number len : ℕ) (piece next : List ℕ) (done : ℕ) (rest : List (List ℕ))
    → is_continued piece ≡ true → zero_checked (done + 1) next ≡ Ok tt
    → checking number len piece done (next ∷ rest)
    ≡ checking number (len + (length piece - 1) + 1) (without_indent next) (done + 1) rest
unfolding checking continuing behind joined
checking-continues number len piece next done rest continues clean =
    let more = continuing (is_continued next) rest in
    let counted : done + 1 + length (next ∷ more) ≡ done + 1 + 1 + length more = omega arith in
    let longer = length-joined len piece (joined (without_indent next) more) in
    rw (continues, is_continued-without_indent next, clean, counted, longer) refl

pub checking-next_zero : (number len : ℕ) (piece next : List ℕ) (done : ℕ) (rest : List (List ℕ))
    (fault : LineFault) → is_continued piece ≡ true → zero_checked (done + 1) next ≡ Err fault
    → checking number len piece done (next ∷ rest) ≡ Err fault
unfolding checking continuing behind joined
checking-next_zero number len piece next done rest fault continues zero = rw (continues, zero) refl

-- the text ends in a continued line
pub checking-ends : (number len : ℕ) (piece : List ℕ) (done : ℕ) → is_continued piece ≡ true
    → checking number len piece done []
    ≡ result_and (len_checked number (len + (length piece - 1))) (Ok tt)
unfolding checking continuing behind joined line_groups
checking-ends number len piece done continues =
    rw (continues, length-without_last piece) refl

-- the logical line ends in a line that is not continued
pub checking-stops : (number len : ℕ) (piece : List ℕ) (done : ℕ) (rest : List (List ℕ))
    → is_continued piece ≡ false
    → checking number len piece done rest
    ≡ result_and (len_checked number (len + length piece))
    (groups_checked (done + 1) (line_groups rest))
unfolding checking joined
checking-stops number len piece done rest stops =
    rw (stops, continuing-closed rest, behind-closed rest, stops, add-zero) refl

-- a line's first byte is no zero byte, and none of the others is
HoldNoZero-onto : (byte : ℕ) (lines : List (List ℕ)) → (byte == 0) ≡ false → HoldNoZero lines
    → HoldNoZero (onto_first byte lines)
HoldNoZero-onto byte [] some none = rw some refl
HoldNoZero-onto byte (line ∷ lines) some none =
    let parts = or_parts (holds_zero line) (list_any holds_zero lines) none in
    rw (some, parts.0, parts.1) refl

-- the lines of a text without a zero byte
pub HoldNoZero-lines : (text : List ℕ) → holds_zero text ≡ false
    → HoldNoZero (physical_lines text)
unfolding physical_lines
HoldNoZero-lines [] none = refl
HoldNoZero-lines (byte ∷ bytes) none =
    let parts = or_parts (byte == 0) (holds_zero bytes) none in
    let rest = HoldNoZero-lines bytes parts.1 in
    elim (is_newline byte) as (λ t.
    HoldNoZero (if t then [] ∷ physical_lines bytes else onto_first byte (physical_lines bytes)))
    [ true ↦ rest | false ↦ HoldNoZero-onto byte (physical_lines bytes) parts.0 rest ]
