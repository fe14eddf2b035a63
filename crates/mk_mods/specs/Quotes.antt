-- Quoting for a shell, `:Q` and `:q` of make(1).
use Rattle.std.specs.Prelude.{ℕ, ◌==◌, ◌||◌, Bool, nat_le, List, [], ◌∷◌, if◌then◌else◌, codes}
use Rattle.std.specs.List.{flat_map, list_any}
use Rattle.mk_bytes.specs.Bytes.{newline, dollar, backslash, is_letter, is_digit}

-- the bytes that are themselves in a quoted text
abbrev pub is_plain : ℕ → Bool
is_plain byte =
    is_letter byte || is_digit byte || nat_le 128 byte
    || list_any (λ other. byte == other) (codes "_-+=.,/:@%")

-- A newline stands between quotes, and every other byte behind a backslash.
abbrev pub quoted_byte : ℕ → List ℕ
quoted_byte byte =
    if is_plain byte then byte ∷ []
    else (if byte == newline then codes "'\n'"
    else backslash ∷ byte ∷ [])

abbrev pub quoted : List ℕ → List ℕ
quoted text = flat_map quoted_byte text

abbrev pub dollar_doubled : ℕ → List ℕ
dollar_doubled byte = if byte == dollar then dollar ∷ dollar ∷ [] else byte ∷ []

-- a text with each `$` doubled
abbrev pub doubled : List ℕ → List ℕ
doubled text = flat_map dollar_doubled text
