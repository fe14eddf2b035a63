-- Assignments (make(1), "VARIABLE ASSIGNMENTS"): one word, a sign, and the rest of the line.
use Rattle.std.specs.Prelude.{ℕ, ◌+◌, ◌-◌, suc, Bool, not, ◌==◌, ◌&&◌, ◌||◌, List, [], ◌∷◌}
use Rattle.std.specs.Prelude.{take, drop, Option, Some, None, if◌then◌else◌}
use Rattle.std.specs.List.{list_any}
use Rattle.std.specs.Option.{option_map}
use Rattle.std.specs.Str.{bytes_eq}
use Rattle.mk_bytes.specs.Bytes as bytes
use Rattle.mk_bytes.specs.Words.{is_white}
use Rattle.mk_bytes.specs.Texts.{without_blanks, without_blanks_before}
use Rattle.mk_cli.specs.Assignments.{name_and_op}
use Rattle.mk_cli.specs.declared.order.AssignOp.{AssignOp}

-- brackets of both kinds are counted together
abbrev pub is_opener : ℕ → Bool
is_opener byte = byte == bytes.round_open || byte == bytes.curly_open

abbrev pub is_closer : ℕ → Bool
is_closer byte = byte == bytes.round_close || byte == bytes.curly_close

-- how many brackets are open behind a byte; a closer outside of all changes nothing
abbrev pub depth_behind : ℕ → ℕ → ℕ
depth_behind depth byte =
    if is_opener byte then depth + 1 else (if is_closer byte then depth - 1 else depth)

-- an `=` that stands in no brackets
abbrev pub is_sign : ℕ → ℕ → Bool
is_sign depth byte = byte == bytes.equals_sign && depth == 0

-- the place of the first such sign, where so many brackets are open before
unfoldable pub equals_at : ℕ → List ℕ → Option ℕ
equals_at depth [] = None
equals_at depth (byte ∷ rest) =
    if is_sign depth byte then Some 0
    else option_map suc (equals_at (depth_behind depth byte) rest)

-- one word: some bytes, and no white space among them
abbrev pub is_one_word : List ℕ → Bool
is_one_word text = not (bytes_eq text []) && not (list_any is_white text)

-- a name, a sign and a value
abbrev pub Parts : Type 0
Parts = List ℕ × AssignOp × List ℕ

-- before the sign stands one word, with blanks round it
abbrev pub signed : List ℕ × AssignOp → List ℕ → Option Parts
signed sign value =
    if is_one_word (without_blanks sign.0) then Some (without_blanks sign.0, sign.1, value)
    else None

-- the parts of a line at its sign; the byte before an `=` belongs to the sign where it can
abbrev pub parts_at : List ℕ → Option ℕ → Option Parts
parts_at line None = None
parts_at line (Some at) =
    signed (name_and_op (take at line)) (without_blanks_before (drop (at + 1) line))

-- The name, the sign and the value of the assignment that a line is, if it is one.
abbrev pub assignment : List ℕ → Option Parts
assignment line = parts_at line (equals_at 0 line)
