-- Patterns of words (make(1), the modifiers `:M` and `:N`): `*` takes any bytes, `?` takes one
-- byte, a set takes one of its members, and every other byte takes itself.
use Rattle.std.specs.Prelude.{ℕ, zero, suc, ◌+◌, Bool, true, false, not, ◌==◌, ◌||◌, ◌&&◌, nat_le}
use Rattle.std.specs.Prelude.{List, [], ◌∷◌, length, take, drop, Option, None, if◌then◌else◌}
use Rattle.std.specs.Prelude.{position, unwrap_or}
use Rattle.std.specs.Option.{option_map}
use Rattle.mk_bytes.specs.Bytes.{star, minus, question_mark, square_open, backslash, square_close}
use Rattle.mk_bytes.specs.Bytes.{caret}

-- the bytes of which a part takes one: any, a single one, the members of a set, or all others
pub data Class : Type 0 where
  any : Class
  only : ℕ → Class
  within : List ℕ → Class
  outside : List ℕ → Class

-- a part of a pattern takes many bytes, none included, or one byte of a class
pub data Part : Type 0 where
  many : Part
  one : Class → Part

abbrev pub is_close : ℕ → Bool
is_close byte = byte == square_close

-- The members of a set and what follows its `]`, which is the first one behind the first member.
abbrev pub cut_set : List ℕ → Option (List ℕ × List ℕ)
cut_set bytes =
    option_map (λ at. (take (at + 1) bytes, drop (at + 2) bytes))
    (position is_close (drop 1 bytes))

-- The part that a `[` begins, from the bytes behind it: with `^` the bytes outside the set.
abbrev pub set_part : List ℕ → Option (Part × List ℕ)
set_part [] = None
set_part (byte ∷ rest) =
    if byte == caret then option_map (λ cut. (one (outside cut.0), cut.1)) (cut_set rest)
    else option_map (λ cut. (one (within cut.0), cut.1)) (cut_set (byte ∷ rest))

-- A backslash stands for the byte behind it, and at the end for itself.
abbrev pub escaped : List ℕ → Part × List ℕ
escaped [] = (one (only backslash), [])
escaped (byte ∷ rest) = (one (only byte), rest)

-- the first part of a pattern that begins with no set, and what follows it
abbrev pub plain_part : ℕ → List ℕ → Part × List ℕ
plain_part byte rest =
    if byte == star then (many, rest)
    else (if byte == question_mark then (one any, rest)
    else (if byte == backslash then escaped rest
    else (one (only byte), rest)))

-- The first part of a pattern, and what follows it. A `[` that no `]` closes is itself.
abbrev pub first_part : ℕ → List ℕ → Part × List ℕ
first_part byte rest =
    if byte == square_open then unwrap_or (set_part rest) (plain_part byte rest)
    else plain_part byte rest

-- the first parts of a pattern, so many at most
abbrev pub first_parts : ℕ → List ℕ → List Part
first_parts zero pattern = []
first_parts (suc count) [] = []
first_parts (suc count) (byte ∷ rest) =
    (first_part byte rest).0 ∷ first_parts count (first_part byte rest).1

-- The parts of a pattern, which are at most as many as its bytes.
unfoldable pub parts_of : List ℕ → List Part
parts_of pattern = first_parts (length pattern) pattern

abbrev pub is_between : ℕ → ℕ → ℕ → Bool
is_between low high byte = nat_le low byte && nat_le byte high

-- A member stands for itself, and two with a `-` between them for the bytes from one to the other.
abbrev pub is_member : List ℕ → ℕ → Bool
is_member [] byte = false
is_member (low ∷ dash ∷ high ∷ more) byte =
    if dash == minus then is_between low high byte || is_member more byte
    else low == byte || is_member (dash ∷ high ∷ more) byte
is_member (member ∷ more) byte = member == byte || is_member more byte

abbrev pub takes : Class → ℕ → Bool
takes any byte = true
takes (only same) byte = same == byte
takes (within members) byte = is_member members byte
takes (outside members) byte = not (is_member members byte)

-- whether a word passes, or some end of it down to the empty one
abbrev pub some_end : (List ℕ → Bool) → List ℕ → Bool
some_end passes [] = passes []
some_end passes (byte ∷ word) = passes (byte ∷ word) || some_end passes word

-- Parts match a word where they take all its bytes, one part after the other.
abbrev pub parts_match : List Part → List ℕ → Bool
parts_match [] [] = true
parts_match [] (byte ∷ word) = false
parts_match (many ∷ parts) word = some_end (parts_match parts) word
parts_match (one class ∷ parts) [] = false
parts_match (one class ∷ parts) (byte ∷ word) = takes class byte && parts_match parts word

-- A pattern matches a word where its parts do.
abbrev pub matches : List ℕ → List ℕ → Bool
matches pattern word = parts_match (parts_of pattern) word
