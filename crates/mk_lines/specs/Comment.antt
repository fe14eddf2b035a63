-- A line without its comment, as make(1) cuts it.
use Rattle.std.specs.Prelude.{ℕ, ◌==◌, ◌||◌, ◌&&◌, Bool, List, [], ◌∷◌, ◌++◌}
use Rattle.std.specs.Prelude.{if◌then◌else◌}
use Rattle.std.specs.Str.{bytes_eq}
use Rattle.mk_bytes.specs.Bytes.{hash, square_open, backslash}
use Rattle.mk_bytes.specs.Texts.{without_blanks_after}

-- Two bytes that are read as one: a backslash with the backslash or `#` behind it, and `[#`.
abbrev pub is_pair : ℕ → ℕ → Bool
is_pair byte next =
    (byte == backslash && (next == backslash || next == hash))
    || (byte == square_open && next == hash)

-- how many bytes are read as one at the start of a line
abbrev pub unit_len : List ℕ → ℕ
unit_len [] = 0
unit_len (byte ∷ []) = 1
unit_len (byte ∷ next ∷ rest) = if is_pair byte next then 2 else 1

-- What stands before the comment, which begins at the first `#` that is in no pair.
unfoldable pub before_comment : List ℕ → List ℕ
before_comment [] = []
before_comment (byte ∷ []) = if byte == hash then [] else byte ∷ []
before_comment (byte ∷ next ∷ rest) =
    if byte == hash then []
    else (if is_pair byte next then byte ∷ next ∷ before_comment rest
    else byte ∷ before_comment (next ∷ rest))

-- of `\#` the `#` alone, and any other bytes as they are
abbrev pub plain : List ℕ → List ℕ
plain bytes = if bytes_eq bytes (backslash ∷ hash ∷ []) then hash ∷ [] else bytes

-- a line with `\#` as `#`
unfoldable pub unescaped : List ℕ → List ℕ
unescaped [] = []
unescaped (byte ∷ []) = byte ∷ []
unescaped (byte ∷ next ∷ rest) =
    if is_pair byte next then plain (byte ∷ next ∷ []) ++ unescaped rest
    else byte ∷ unescaped (next ∷ rest)

-- A line without its comment and final blanks, with `\#` as `#`.
abbrev pub cut_comment : List ℕ → List ℕ
cut_comment line = unescaped (without_blanks_after (before_comment line))
