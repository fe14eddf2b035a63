-- How a build goes by the words of `.MAKE.MODE`.
use Rattle.std.specs.Prelude.{ℕ, ◌+◌, ◌==◌, ◌&&◌, ◌||◌, Bool, true, false, List, [], ◌∷◌, drop}
use Rattle.std.specs.Prelude.{length, Option, Some, None}
use Rattle.std.specs.Prelude.{if◌then◌else◌, nat_eq, codes}
use Rattle.std.specs.List.{starts_with}
use Rattle.std.specs.Str.{bytes_eq}
use Rattle.mk_bytes.specs.declared.pair.Pair.{Pair}
use Rattle.mk_graph.specs.declared.mode.Mode.{Mode}

-- a lower-case letter, or the same one in upper case
abbrev pub is_letter : ℕ → ℕ → Bool
is_letter lower byte = byte == lower || byte + 32 == lower

-- a word of lower-case letters, in any case of each
abbrev pub is_in_any_case : List ℕ → List ℕ → Bool
is_in_any_case [] [] = true
is_in_any_case [] (byte ∷ more) = false
is_in_any_case (lower ∷ word) [] = false
is_in_any_case (lower ∷ word) (byte ∷ more) = is_letter lower byte && is_in_any_case word more

abbrev pub is_true : List ℕ → Bool
is_true value =
    bytes_eq value (codes "1")
    || (is_in_any_case (codes "yes") value
    || (is_in_any_case (codes "true") value || is_in_any_case (codes "on") value))

-- a word that begins with a name and `=`
abbrev pub begins_with : List ℕ → List ℕ → Bool
begins_with name word = starts_with nat_eq word name

abbrev pub value_behind : List ℕ → List ℕ → Bool
value_behind name word = is_true (drop (length name) word)

abbrev pub value_if : List ℕ → List ℕ → Option Bool
value_if name word = if begins_with name word then Some (value_behind name word) else None

-- A word says one thing of a build; a word that is not known says nothing.
abbrev pub with_word : Mode → List ℕ → Mode
with_word mode word =
    if bytes_eq word (codes "meta") then record mode { meta = true }
    else (if bytes_eq word (codes "nofilemon") then record mode { nofilemon = true }
    else (if bytes_eq word (codes "ignore-cmd") then record mode { ignore_cmd = true }
    else (if begins_with (codes "curdirOk=") word
    then record mode { curdir_ok = value_behind (codes "curdirOk=") word }
    else (if begins_with (codes "missing-meta=") word
    then record mode { missing_meta = value_behind (codes "missing-meta=") word }
    else (if begins_with (codes "missing-filemon=") word
    then record mode { missing_filemon = value_behind (codes "missing-filemon=") word }
    else (if begins_with (codes "silent=") word
    then record mode { silent = value_behind (codes "silent=") word }
    else mode))))))

abbrev pub with_words : Mode → List (List ℕ) → Mode
with_words mode [] = mode
with_words mode (word ∷ more) = with_words (with_word mode word) more

-- what no word says
abbrev pub no_mode : List (List ℕ) → List Pair → Bool → Bool → Mode
no_mode ignored exports one_job delete = record {
  meta = false;
  curdir_ok = false;
  missing_meta = false;
  missing_filemon = false;
  nofilemon = false;
  ignore_cmd = false;
  silent = false;
  one_job = one_job;
  delete_on_error = delete;
  ignore_paths = ignored;
  exports = exports;
}

-- Of words that say the same thing the last counts.
abbrev pub mode_by : List (List ℕ) → List (List ℕ) → List Pair → Bool → Bool → Mode
mode_by words ignored exports one_job delete =
    with_words (no_mode ignored exports one_job delete) words
