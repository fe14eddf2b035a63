-- Physical lines, and the logical lines that make(1) joins them to.
use Rattle.std.specs.Prelude.{ℕ, ◌+◌, ◌-◌, ◌%◌, ◌==◌, Bool, List, [], ◌∷◌, ◌++◌, length, take}
use Rattle.std.specs.Prelude.{if◌then◌else◌}
use Rattle.std.specs.List.{onto_first, suffix_len}
use Rattle.mk_bytes.specs.Bytes.{newline, space, backslash}
pub use Rattle.mk_bytes.specs.Texts.{without_blanks_before as without_indent}
use Rattle.mk_lines.specs.declared.line.LogLine.{LogLine}

-- the byte that ends a physical line
abbrev pub is_newline : ℕ → Bool
is_newline byte = byte == newline

-- the byte that continues a line, where it is not escaped itself
abbrev pub is_backslash : ℕ → Bool
is_backslash byte = byte == backslash

-- The physical lines of a text: each ends at a newline, and the last may lack it.
unfoldable pub physical_lines : List ℕ → List (List ℕ)
physical_lines [] = []
physical_lines (byte ∷ bytes) =
    if is_newline byte then [] ∷ physical_lines bytes
    else onto_first byte (physical_lines bytes)

-- A line that ends in an odd number of backslashes is continued.
abbrev pub is_continued : List ℕ → Bool
is_continued line = suffix_len is_backslash line % 2 == 1

-- The physical lines of each logical line: a continued line goes with the line that follows it.
unfoldable pub line_groups : List (List ℕ) → List (List (List ℕ))
line_groups [] = []
line_groups (line ∷ rest) =
    if is_continued line then onto_first line (line_groups rest)
    else (line ∷ []) ∷ line_groups rest

-- a continued line without the backslash that continues it
abbrev pub without_last : List ℕ → List ℕ
without_last line = take (length line - 1) line

-- A line joined with those that continue it: the last backslash, the newline and the blanks that
-- begin the next line become one space. The end of the text drops such a backslash.
unfoldable pub joined : List ℕ → List (List ℕ) → List ℕ
joined line [] = if is_continued line then without_last line else line
joined line (next ∷ rest) = without_last line ++ space ∷ joined (without_indent next) rest

-- the text of the logical line that a group of physical lines makes
abbrev pub text_of : List (List ℕ) → List ℕ
text_of [] = []
text_of (line ∷ rest) = joined line rest

-- the logical lines of groups, each with the number of its first physical line
abbrev pub lines_of : ℕ → List (List (List ℕ)) → List LogLine
lines_of number [] = []
lines_of number (group ∷ groups) =
    record { first = number; text = text_of group } ∷ lines_of (number + length group) groups

-- the logical lines of a text whose first physical line has this number
abbrev pub lines_from : ℕ → List ℕ → List LogLine
lines_from number text = lines_of number (line_groups (physical_lines text))
