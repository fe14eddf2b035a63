-- How records are written in a meta file: a letter, the number of a command line, and paths.
use Rattle.std.specs.Prelude.{ℕ, ◌<◌, ◌≤◌, ◌==◌, ◌&&◌, ◌^◌, Bool, true, false, nat_le, nat_lt}
use Rattle.std.specs.Prelude.{List, [], ◌∷◌, ◌++◌, Option, Some, None, if◌then◌else◌, decimal}
use Rattle.std.specs.Prelude.{option_and_then}
use Rattle.std.specs.Option.{option_map}
use Rattle.mk_bytes.specs.Bytes.{space}
use Rattle.mk_world.specs.declared.step.Op.{Op}
use Rattle.mk_world.specs.declared.step.Op.TheVariants.{Read, Miss, Write, Delete, Move}
use Rattle.mk_filemon.specs.declared.record.Rec.{Rec}
use Rattle.mk_filemon.specs.Escapes.{quote, escaped, part_at, unescaped, number_in, cut_at}

-- the letters of records, and of the lines of a log
abbrev pub letter_r : ℕ
letter_r = 82

abbrev pub letter_miss : ℕ
letter_miss = 78

abbrev pub letter_w : ℕ
letter_w = 87

abbrev pub letter_d : ℕ
letter_d = 68

abbrev pub letter_m : ℕ
letter_m = 77

abbrev pub letter_of : Op → ℕ
letter_of (Read path) = letter_r
letter_of (Miss path) = letter_miss
letter_of (Write path) = letter_w
letter_of (Delete path) = letter_d
letter_of (Move from to) = letter_m

abbrev pub quoted : List ℕ → List ℕ
quoted path = quote ∷ escaped true path ++ quote ∷ []

abbrev pub data_of : Op → List ℕ
data_of (Read path) = escaped false path
data_of (Miss path) = escaped false path
data_of (Write path) = escaped false path
data_of (Delete path) = escaped false path
data_of (Move from to) = quoted from ++ space ∷ quoted to

-- A record as it is written.
abbrev pub record_text : ℕ → Op → List ℕ
record_text line op = letter_of op ∷ space ∷ decimal line ++ space ∷ data_of op

-- the number of a command line
pub record IsLine (line : ℕ) : Type 0 where
  pub first : 1 ≤ line
  pub small : line < 2 ^ 32

abbrev pub is_line : ℕ → Bool
is_line line = nat_le 1 line && nat_lt line (2 ^ 32)

abbrev pub line_in : List ℕ → Option ℕ
line_in text =
    option_and_then (λ line. if is_line line then Some line else None) (number_in text)

-- a letter, the number of a line, and what follows
abbrev pub Head : Type 0
Head = ℕ × ℕ × List ℕ

abbrev pub numbered : ℕ → List ℕ × List ℕ → Option Head
numbered letter (number, text) = option_map (λ line. (letter, line, text)) (line_in number)

abbrev pub head_at : List ℕ → Option Head
head_at [] = None
head_at (letter ∷ []) = None
head_at (letter ∷ byte ∷ text) = if byte == space then option_and_then (numbered letter)
    (cut_at space text) else None

-- what stands behind an opening quote
abbrev pub quoted_at : List ℕ → Option (List ℕ × List ℕ)
quoted_at [] = None
quoted_at (byte ∷ text) = if byte == quote then part_at true text else None

-- a move's second path is the last thing in its record
abbrev pub moved : List ℕ → List ℕ × List ℕ → Option Op
moved from (to, []) = Some (Move from to)
moved from (to, byte ∷ rest) = None

abbrev pub move_to : List ℕ → List ℕ → Option Op
move_to from [] = None
move_to from (byte ∷ text) =
    if byte == space then option_and_then (moved from) (quoted_at text) else None

abbrev pub move_in : List ℕ → Option Op
move_in text = option_and_then (λ found. move_to found.0 found.1) (quoted_at text)

abbrev pub op_with : ℕ → List ℕ → Option Op
op_with letter path =
    if letter == letter_r then Some (Read path)
    else (if letter == letter_miss then Some (Miss path)
    else (if letter == letter_w then Some (Write path)
    else (if letter == letter_d then Some (Delete path)
    else None)))

abbrev pub op_in : ℕ → List ℕ → Option Op
op_in letter text =
    if letter == letter_m then move_in text
    else option_and_then (op_with letter) (unescaped text)

abbrev pub with_op : Head → Option Rec
with_op (letter, line, text) =
    option_map (λ op. record { line = line; op = op }) (op_in letter text)

-- The record that a text is, and none for any other text.
abbrev pub record_in : List ℕ → Option Rec
record_in text = option_and_then with_op (head_at text)
