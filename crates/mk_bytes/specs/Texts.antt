-- Parts of texts, and texts in lists.
use Rattle.std.specs.Prelude.{ℕ, ◌-◌, Bool, nat_eq, List, length, take, drop}
use Rattle.std.specs.List.{prefix_len, suffix_len, starts_with, list_any}
use Rattle.std.specs.Str.{bytes_eq}
use Rattle.mk_bytes.specs.Bytes.{is_blank}

-- a text from its first byte that is no blank
abbrev pub without_blanks_before : List ℕ → List ℕ
without_blanks_before text = drop (prefix_len is_blank text) text

-- a text up to its last byte that is no blank
abbrev pub without_blanks_after : List ℕ → List ℕ
without_blanks_after text = take (length text - suffix_len is_blank text) text

-- a text without the blanks round it
abbrev pub without_blanks : List ℕ → List ℕ
without_blanks text = without_blanks_after (without_blanks_before text)

-- whether a text begins with another one
unfoldable pub begins : List ℕ → List ℕ → Bool
begins start bytes = starts_with nat_eq bytes start

-- whether a text is one of these
abbrev pub is_among : List (List ℕ) → List ℕ → Bool
is_among texts text = list_any (λ one. bytes_eq text one) texts
