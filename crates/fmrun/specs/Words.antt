-- Numbers and lines of words.
use Rattle.std.specs.Prelude.{ℕ, ◌-◌, ◌==◌, ◌&&◌, nat_le, Bool, true, false, List, [], ◌∷◌, ◌++◌}
use Rattle.std.specs.Prelude.{length, Option, Some, None, slice_get, option_and_then}
use Rattle.std.specs.Prelude.{if◌then◌else◌}
use Rattle.std.specs.List.{slice_split}
use Rattle.mk_bytes.specs.Bytes.{space, newline}
use Rattle.mk_bytes.specs.Numbers.{number_up_to}

-- a number of 1 to 9 decimal digits
abbrev pub number_of : List ℕ → Option ℕ
number_of word = if nat_le (length word) 9 then number_up_to 999999999 word else None

-- the place of a line, counted from 0, by its number, counted from 1
abbrev pub place_of : List ℕ → Option ℕ
place_of word =
    option_and_then (λ number. if number == 0 then None else Some (number - 1)) (number_of word)

-- a status from 1 to 255
abbrev pub status_of : List ℕ → Option ℕ
status_of word =
    option_and_then (λ number. if nat_le 1 number && nat_le number 255 then Some number else None)
    (number_of word)

-- words with a space before each
abbrev pub spaced : List (List ℕ) → List ℕ
spaced [] = []
spaced (word ∷ words) = space ∷ word ++ spaced words

-- a line of words with spaces between them
abbrev pub line_of : List (List ℕ) → List ℕ
line_of [] = newline ∷ []
line_of (word ∷ words) = word ++ spaced words ++ newline ∷ []

-- a byte at which lines end
abbrev pub is_newline : ℕ → Bool
is_newline byte = byte == newline

-- a part with a byte at least
abbrev pub is_not_empty : List ℕ → Bool
is_not_empty [] = false
is_not_empty (byte ∷ bytes) = true

-- the parts that follow a newline, where there is one
abbrev pub lines_after : Option (List ℕ) → List (List ℕ)
lines_after None = []
lines_after (Some rest) = slice_split is_newline rest

-- the lines, by the parts between newlines: what follows the last newline is one where it is not
-- empty
abbrev pub lines_in : List (List ℕ) → List (List ℕ)
lines_in [] = []
lines_in (part ∷ []) = if is_not_empty part then part ∷ [] else []
lines_in (part ∷ next ∷ parts) = part ∷ lines_in (next ∷ parts)

-- the lines of a text, without their newlines
abbrev pub lines_of : List ℕ → List (List ℕ)
lines_of text = lines_in (slice_split is_newline text)

-- a line with its newline, where there is one
abbrev pub with_newline : Option (List ℕ) → List ℕ
with_newline None = []
with_newline (Some line) = line ++ newline ∷ []

-- the line at a place, counted from 0, with a newline; nothing where there is no such line
abbrev pub picked : ℕ → List ℕ → List ℕ
picked place text = with_newline (slice_get (lines_of text) place)
