-- What follows the words of `.for` and `.include`.
use Rattle.std.specs.Prelude.{ℕ, suc, ◌+◌, Bool, true, false, ◌==◌, ◌&&◌, not, List, [], ◌∷◌}
use Rattle.std.specs.Prelude.{length}
use Rattle.std.specs.Prelude.{take, drop, position, Option, Some, None, if◌then◌else◌}
use Rattle.std.specs.Option.{option_map}
use Rattle.mk_bytes.specs.Bytes as bytes
use Rattle.mk_bytes.specs.Texts.{without_blanks_before}
use Rattle.mk_bytes.specs.Words.{is_white, words_of}

-- Loops

abbrev pub ends_word : List ℕ → Bool
ends_word [] = true
ends_word (byte ∷ rest) = is_white byte

-- `in`, and the end of a word
abbrev pub begins_with_in : List ℕ → Bool
begins_with_in (first ∷ second ∷ rest) = first == 105 && second == 110 && ends_word rest
begins_with_in _ = false

-- the word `in`, where a word may begin or may not
abbrev pub is_in : Bool → List ℕ → Bool
is_in begins text = begins && begins_with_in text

-- the place of the first word `in`
unfoldable pub in_at : Bool → List ℕ → Option ℕ
in_at begins [] = None
in_at begins (byte ∷ rest) =
    if is_in begins (byte ∷ rest) then Some 0
    else option_map suc (in_at (is_white byte) rest)

-- the names of a loop, and the text that its words are cut from
abbrev pub Heading : Type 0
Heading = List (List ℕ) × List ℕ

abbrev pub with_names : List (List ℕ) → List ℕ → Option Heading
with_names [] text = None
with_names (name ∷ names) text = Some (name ∷ names, text)

abbrev pub heading_at : List ℕ → Option ℕ → Option Heading
heading_at text None = None
heading_at text (Some at) =
    with_names (words_of (take at text)) (without_blanks_before (drop (at + 2) text))

-- The words before the first word `in`, and what follows it and its blanks.
abbrev pub heading_in : List ℕ → Option Heading
heading_in text = heading_at text (in_at true text)

-- Files

-- a byte that is the last one, and not the only one
abbrev pub is_end : ℕ → ℕ → Bool
is_end at len = not (at == 0) && at + 1 == len

abbrev pub ended_at : List ℕ → Option ℕ → Option (List ℕ)
ended_at text None = None
ended_at text (Some at) = if is_end at (length text) then Some (take at text) else None

-- the bytes before a closing byte that stands at the end and nowhere else
abbrev pub ended : ℕ → List ℕ → Option (List ℕ)
ended closer text = ended_at text (position (λ byte. byte == closer) text)

-- whether a name stood in angle brackets, and not in quotes; and the name
abbrev pub Wanted : Type 0
Wanted = Bool × List ℕ

-- The file that a text names.
abbrev pub wanted_by : List ℕ → Option Wanted
wanted_by [] = None
wanted_by (byte ∷ rest) =
    if byte == bytes.quote_mark then option_map (λ name. (false, name)) (ended bytes.quote_mark rest)
    else (if byte == bytes.less_than
    then option_map (λ name. (true, name)) (ended bytes.greater_than rest)
    else None)
