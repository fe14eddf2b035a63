-- Where a text ends, and which backslashes in it are escapes, by the place where it stands.
use Rattle.std.specs.Prelude.{ℕ, ◌+◌, ◌-◌, ◌==◌, ◌||◌, ◌&&◌, Bool, true, false, if◌then◌else◌, List}
use Rattle.std.specs.Prelude.{[], ◌∷◌}
use Rattle.mk_bytes.specs.Bytes.{is_blank, exclamation, quote_mark, dollar, ampersand, round_close}
use Rattle.mk_bytes.specs.Bytes.{colon, less_than, equals_sign, greater_than, at_sign, square_close}
use Rattle.mk_bytes.specs.Bytes.{backslash, caret, bar}
use Rattle.mk_ast.specs.Spell.{opener, closer}
use Rattle.mk_ast.specs.declared.place.Place.{Place}
use Rattle.mk_ast.specs.declared.place.Place.TheVariants.{Whole, Name, Pattern, From, To, Select}
use Rattle.mk_ast.specs.declared.place.Place.TheVariants.{Count, Value, IfTrue, IfFalse, Body, Old}
use Rattle.mk_ast.specs.declared.place.Place.TheVariants.{New, Piece as InCondition}
use Rattle.mk_ast.specs.declared.place.Piece.{Piece}
use Rattle.mk_ast.specs.declared.place.Piece.TheVariants.{Word, Quoted, Argument}

-- the bytes that end a modifier
abbrev pub ends_modifier : Bool → ℕ → Bool
ends_modifier round byte = byte == colon || byte == closer round

-- In a condition a word ends at blanks and at the signs of conditions, a quoted text at its quote,
-- and an argument of a function at the parenthesis.
abbrev pub ends_piece : Piece → ℕ → Bool
ends_piece Word byte =
    is_blank byte || byte == round_close || byte == ampersand || byte == bar || byte == equals_sign
    || byte == exclamation || byte == less_than || byte == greater_than
ends_piece Quoted byte = byte == quote_mark
ends_piece Argument byte = byte == round_close

-- in a quoted text a backslash escapes every byte
abbrev pub escapes_in_piece : Piece → Bool
escapes_in_piece Word = false
escapes_in_piece Quoted = true
escapes_in_piece Argument = false

-- A name ends at a `:` or closer that is not nested, an argument at the end of its row.
abbrev pub ends : Place → ℕ → Bool
ends Whole byte = false
ends (Name round nested) byte = nested == 0 && ends_modifier round byte
ends (Pattern round) byte = ends_modifier round byte
ends (From delim leading) byte = byte == delim
ends (To delim) byte = byte == delim
ends Select byte = byte == square_close
ends (Count round) byte = ends_modifier round byte
ends (Value round) byte = ends_modifier round byte
ends (IfTrue round) byte = byte == colon
ends (IfFalse round) byte = byte == closer round
ends Body byte = byte == at_sign
ends (Old round) byte = byte == equals_sign || byte == closer round
ends (New round) byte = byte == closer round
ends (InCondition piece) byte = ends_piece piece byte

-- whether nothing of the text at this place is left
abbrev pub is_over : Place → List ℕ → Bool
is_over place [] = true
is_over place (byte ∷ bytes) = ends place byte

-- the bytes that a backslash escapes in the texts of `:U`, `:D`, `:?` and `:old=new`
abbrev pub in_value : Bool → ℕ → Bool
in_value round byte =
    byte == colon || byte == closer round || byte == dollar || byte == backslash

-- the bytes that a backslash escapes in both texts of `:S`
abbrev pub in_subst : ℕ → ℕ → Bool
in_subst delim byte =
    byte == delim || byte == backslash || byte == dollar || byte == ampersand

-- the bytes that a backslash escapes
abbrev pub escapes : Place → ℕ → Bool
escapes Whole byte = false
escapes (Name round nested) byte = false
escapes (Pattern round) byte = byte == colon
escapes (From delim leading) byte = in_subst delim byte || (leading && byte == caret)
escapes (To delim) byte = in_subst delim byte
escapes Select byte = false
escapes (Count round) byte = false
escapes (Value round) byte = in_value round byte
escapes (IfTrue round) byte = in_value round byte
escapes (IfFalse round) byte = in_value round byte
escapes Body byte = false
escapes (Old round) byte = in_value round byte || byte == equals_sign
escapes (New round) byte = in_value round byte || byte == equals_sign
escapes (InCondition piece) byte = escapes_in_piece piece

-- whether a byte before these is the backslash of an escape
abbrev pub is_escape : Place → ℕ → List ℕ → Bool
is_escape place byte [] = false
is_escape place byte (next ∷ bytes) = byte == backslash && escapes place next

-- a `$` directly before the delimiter of an old text is its anchor
abbrev pub is_anchor : Place → ℕ → Bool
is_anchor (From delim leading) byte = byte == delim
is_anchor _ byte = false

-- The place after a byte: an opener of a name's own kind nests until its closer, and an old text
-- begins only once.
abbrev pub after : Place → ℕ → Place
after (Name round nested) byte =
    if byte == opener round then Name round (nested + 1)
    else (if byte == closer round then Name round (nested - 1) else Name round nested)
after (From delim leading) byte = From delim false
after place byte = place

-- how many openers are nested around a place
abbrev pub nesting : Place → ℕ
nesting (Name round nested) = nested
nesting _ = 0
