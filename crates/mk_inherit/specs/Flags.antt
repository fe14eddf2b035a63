-- The text of words, as one make hands them to another.
use Rattle.std.specs.Prelude.{ℕ, Bool, ◌==◌, ◌||◌, List, [], ◌∷◌, ◌++◌, Option, Some, None}
use Rattle.std.specs.Prelude.{if◌then◌else◌, codes}
use Rattle.std.specs.List.{flat_map}
use Rattle.std.specs.Str.{bytes_eq}
use Rattle.mk_bytes.specs.Bytes.{tab, space, backslash}
use Rattle.mk_mods.specs.Quotes.{quoted}
use Rattle.mk_inherit.specs.declared.flags.Mode.{Mode}
use Rattle.mk_inherit.specs.declared.flags.Mode.TheVariants.{Between, Inside, Escaped, Quoted}
use Rattle.mk_inherit.specs.declared.flags.Split.{Split}

-- A word is quoted as `:Q` quotes it; an empty one is two quotes. A space stands behind it.
abbrev pub spelled : List ℕ → List ℕ
spelled word = (if bytes_eq word [] then codes "''" else quoted word) ++ space ∷ []

-- The text of words.
abbrev pub flags : List (List ℕ) → List ℕ
flags words = flat_map spelled words

abbrev pub is_blank : ℕ → Bool
is_blank byte = byte == space || byte == tab

abbrev pub apostrophe : ℕ
apostrophe = 39

abbrev pub with_byte : Split → ℕ → Split
with_byte s byte = record s { mode = Inside; word = s.word ++ byte ∷ [] }

-- a word is over
abbrev pub with_end : Split → Split
with_end s = record { mode = Between; word = []; words = s.words ++ s.word ∷ [] }

-- a byte of a word, outside of quotes and behind no backslash
abbrev pub inside : Split → ℕ → Split
inside s byte =
    if byte == backslash then record s { mode = Escaped }
    else (if byte == apostrophe then record s { mode = Quoted } else with_byte s byte)

abbrev pub taken_in : Split → Mode → ℕ → Split
taken_in s Between byte = if is_blank byte then s else inside s byte
taken_in s Inside byte = if is_blank byte then with_end s else inside s byte
taken_in s Escaped byte = with_byte s byte
taken_in s Quoted byte =
    if byte == apostrophe then record s { mode = Inside }
    else record s { word = s.word ++ byte ∷ [] }

-- One more byte of a text: blanks part its words, a backslash stands before a byte that means
-- nothing else than itself, and between quotes all bytes do.
abbrev pub taken : Split → ℕ → Split
taken s byte = taken_in s s.mode byte

abbrev pub all_taken : Split → List ℕ → Split
all_taken s [] = s
all_taken s (byte ∷ rest) = all_taken (taken s byte) rest

abbrev pub finished_in : Split → Mode → Option (List (List ℕ))
finished_in s Between = Some s.words
finished_in s Inside = Some (s.words ++ s.word ∷ [])
finished_in s Escaped = None
finished_in s Quoted = None

abbrev pub finished : Split → Option (List (List ℕ))
finished s = finished_in s s.mode

abbrev pub no_words : Split
no_words = record { mode = Between; word = []; words = [] }

-- The words of a text; none where a quote is not closed, or nothing stands behind a backslash.
abbrev pub words_in : List ℕ → Option (List (List ℕ))
words_in text = finished (all_taken no_words text)
