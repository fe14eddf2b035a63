-- The words, numbers and lines of texts.
use denote.Ref.{Bor}
use Rattle.std.specs.Prelude.{ℕ, ◌+◌, ◌-◌, ◌*◌, ◌==◌, Bool, true, false, nat_le, List, [], ◌∷◌}
use Rattle.std.specs.Prelude.{◌++◌, length, map, Option, Some, None, slice_get, if◌then◌else◌}
use Rattle.std.specs.List.{filter, slice_split}
use Rattle.mk_bytes.specs.Bytes.{space, newline, is_digit}
use Rattle.mk_bytes.specs.Words.{is_white}

-- a part with a byte at least
abbrev pub is_not_empty : List ℕ → Bool
is_not_empty [] = false
is_not_empty (byte ∷ bytes) = true

-- the words of a text, cut at spaces, tabs and newlines
abbrev pub words_of : List ℕ → List (List ℕ)
words_of text = filter is_not_empty (slice_split is_white text)

-- the words that slices hold
abbrev pub held : List (Bor (List ℕ)) → List (List ℕ)
held slices = map (λ slice. slice.now) slices

-- words with a space before each
abbrev pub spaced : List (List ℕ) → List ℕ
spaced [] = []
spaced (word ∷ words) = space ∷ word ++ spaced words

-- a line of words with spaces between them
abbrev pub line_of : List (List ℕ) → List ℕ
line_of [] = newline ∷ []
line_of (word ∷ words) = word ++ spaced words ++ newline ∷ []

-- a number that is continued by decimal digits, where all of these bytes are digits
abbrev pub continued : ℕ → List ℕ → Option ℕ
continued number [] = Some number
continued number (byte ∷ bytes) =
    if is_digit byte then continued (10 * number + (byte - 48)) bytes else None

-- a number of 1 to 9 decimal digits
abbrev pub number_of : List ℕ → Option ℕ
number_of [] = None
number_of (byte ∷ bytes) = if nat_le (length bytes) 8 then continued 0 (byte ∷ bytes) else None

-- what stands before a number that is not 0
abbrev pub before : Option ℕ → Option ℕ
before None = None
before (Some number) = if number == 0 then None else Some (number - 1)

-- the place of a line, counted from 0, by its number, counted from 1
abbrev pub place_of : List ℕ → Option ℕ
place_of word = before (number_of word)

-- a byte at which lines end
abbrev pub is_newline : ℕ → Bool
is_newline byte = byte == newline

-- the parts that follow a newline, where there is one
abbrev pub lines_after : Option (List ℕ) → List (List ℕ)
lines_after None = []
lines_after (Some rest) = slice_split is_newline rest

-- the lines, by the parts between newlines: what follows the last newline is one where it is not
-- empty
abbrev pub lines_in : List (List ℕ) → List (List ℕ)
lines_in [] = []
lines_in (part ∷ []) = if is_not_empty part then part ∷ [] else []
lines_in (part ∷ next ∷ parts) = part ∷ lines_in (next ∷ parts)

-- the lines of a text, without their newlines
abbrev pub lines_of : List ℕ → List (List ℕ)
lines_of text = lines_in (slice_split is_newline text)

-- a line with its newline, where there is one
abbrev pub with_newline : Option (List ℕ) → List ℕ
with_newline None = []
with_newline (Some line) = line ++ newline ∷ []

-- the line at a place, counted from 0, with a newline; nothing where there is no such line
abbrev pub picked : ℕ → List ℕ → List ℕ
picked place text = with_newline (slice_get (lines_of text) place)
