-- The words of the command line, by their places.
use Rattle.std.specs.Prelude.{ℕ, List, [], slice_get, unwrap_or}

-- the word at a place, or nothing behind the last one
abbrev pub word_at : List (List ℕ) → ℕ → List ℕ
word_at words i = unwrap_or (slice_get words i) []
