-- The faults of a text: zero bytes, and logical lines that are too long.
use Rattle.std.specs.Prelude.{◌≡◌, ℕ, ◌+◌, ◌==◌, ◌≤◌, nat_lt, Bool, false, List, [], ◌∷◌, length}
use Rattle.std.specs.Prelude.{if◌then◌else◌}
use Rattle.std.specs.Prelude.{Result, Ok, Err}
use Rattle.std.specs.List.{All, list_any}
use Rattle.std.specs.Result.{result_and}
use Rattle.mk_lines.specs.declared.fault.LineFault.{LineFault}
use Rattle.mk_lines.specs.declared.fault.LineFault.TheVariants.{TooLong, Zero}
use Rattle.mk_lines.specs.declared.line.LogLine.{LogLine}
use Rattle.mk_lines.specs.Lines.{physical_lines, line_groups, text_of, lines_from}

-- The most bytes that a logical line may have.
abbrev pub max_len : ℕ
max_len = 1048576

-- one of the bytes is zero
abbrev pub holds_zero : List ℕ → Bool
holds_zero line = list_any (λ byte. byte == 0) line

-- None of these lines holds a zero byte.
abbrev pub HoldNoZero : List (List ℕ) → Type 0
HoldNoZero lines = list_any holds_zero lines ≡ false

-- The physical line with this number may hold no zero byte.
abbrev pub zero_checked : ℕ → List ℕ → Result (Unit {0}) LineFault
zero_checked number line = if holds_zero line then Err (Zero number) else Ok tt

-- Nor may any of the physical lines that are counted from this number.
abbrev pub zeros_checked : ℕ → List (List ℕ) → Result (Unit {0}) LineFault
zeros_checked number [] = Ok tt
zeros_checked number (line ∷ rest) =
    result_and (zero_checked number line) (zeros_checked (number + 1) rest)

-- A logical line of this length may not be too long. Its first physical line has this number.
abbrev pub len_checked : ℕ → ℕ → Result (Unit {0}) LineFault
len_checked number len = if nat_lt max_len len then Err (TooLong number) else Ok tt

-- No logical line of a text is too long.
abbrev pub NoneTooLong : List ℕ → Type 0
NoneTooLong text =
    All (λ group. length (text_of group) ≤ max_len) (line_groups (physical_lines text))

-- The fault of a logical line: its first zero byte, or else its length.
abbrev pub group_checked : ℕ → List (List ℕ) → Result (Unit {0}) LineFault
group_checked number group =
    result_and (zeros_checked number group) (len_checked number (length (text_of group)))

-- The first fault of the logical lines in order.
abbrev pub groups_checked : ℕ → List (List (List ℕ)) → Result (Unit {0}) LineFault
groups_checked number [] = Ok tt
groups_checked number (group ∷ groups) =
    result_and (group_checked number group) (groups_checked (number + length group) groups)

-- the first fault of a text
abbrev pub checked : List ℕ → Result (Unit {0}) LineFault
checked text = groups_checked 1 (line_groups (physical_lines text))

-- The logical lines of a text, or its first fault.
abbrev pub logical_lines : List ℕ → Result (List LogLine) LineFault
logical_lines text = result_and (checked text) (Ok (lines_from 1 text))
