-- Words: they are cut at spaces, tabs and newlines.
use Rattle.std.specs.Prelude.{ℕ, ◌≡◌, ◌+◌, ◌<◌, ◌≤◌, Bool, not, ◌==◌, ◌||◌, List, [], ◌∷◌, length}
use Rattle.std.specs.Prelude.{drop}
use Rattle.std.specs.Prelude.{filter, slice_range, Option, Some, None, position, unwrap_or}
use Rattle.std.specs.List.{slice_split}
use Rattle.std.specs.Option.{option_map}
use Rattle.std.specs.Str.{bytes_eq}
use Rattle.mk_bytes.specs.Bytes.{space, tab, newline}
use Rattle.mk_bytes.specs.declared.word.Span.{Span}

-- a byte at which words are cut
abbrev pub is_white : ℕ → Bool
is_white byte = byte == space || byte == tab || byte == newline

abbrev pub is_no_white : ℕ → Bool
is_no_white byte = not (is_white byte)

-- the length of the word that a text begins with: up to the first white space, or all of it
abbrev pub word_len : List ℕ → ℕ
word_len text = unwrap_or (position is_white text) (length text)

abbrev pub word_at : List ℕ → ℕ → Span
word_at text start = record { start = start; end = start + word_len (drop start text) }

-- The first word at or after a place begins at the first byte there that is no white space.
abbrev pub next_word : List ℕ → ℕ → Option Span
next_word text from =
    option_map (λ skipped. word_at text (from + skipped)) (position is_no_white (drop from text))

-- a text with a byte at least
abbrev pub is_some_text : List ℕ → Bool
is_some_text text = not (bytes_eq text [])

-- what stands before, between and behind the white space of a text
abbrev pub pieces : List ℕ → List (List ℕ)
pieces text = slice_split is_white text

-- the pieces behind a byte of white space, where there is one
abbrev pub pieces_behind : Option (List ℕ) → List (List ℕ)
pieces_behind None = []
pieces_behind (Some rest) = pieces rest

-- the texts that are not empty
abbrev pub words_among : List (List ℕ) → List (List ℕ)
words_among texts = filter is_some_text texts

-- The words of a text: its pieces that are not empty.
abbrev pub words_of : List ℕ → List (List ℕ)
words_of text = words_among (pieces text)

-- A place of a text's next word from a place on: the words from there are this one and those behind
-- it.
pub record IsNext (text : List ℕ) (from : ℕ) (word : Span) : Type 0 where
  pub start : from ≤ word.start
  pub some : word.start < word.end
  pub end : word.end ≤ length text
  pub words : words_of (drop from text)
      ≡ slice_range text word.start word.end ∷ words_of (drop word.end text)

-- What `next_word` finds is the next word; where it finds none, there is none.
abbrev pub FindsNext : List ℕ → ℕ → Option Span → Type 0
FindsNext text from None = words_of (drop from text) ≡ []
FindsNext text from (Some word) = IsNext text from word
