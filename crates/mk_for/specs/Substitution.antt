-- How the references to a loop's names are replaced in a line (make(1), the directive `.for`).
use Rattle.std.specs.Prelude.{ℕ, zero, suc, ◌+◌, ◌==◌, ◌||◌, ◌&&◌, Bool, false, nat_eq, List, []}
use Rattle.std.specs.Prelude.{◌∷◌, ◌++◌, length, drop, position, flat_map, slice_index_or, codes}
use Rattle.std.specs.Prelude.{Option, Some, None, if◌then◌else◌, ◌≡◌, ◌⊎◌, ◌<◌, nat_lt, Result, Ok}
use Rattle.std.specs.Prelude.{Err}
use Rattle.std.specs.Option.{option_map, option_or}
use Rattle.std.specs.List.{starts_with}
use Rattle.mk_bytes.specs.Bytes.{dollar, round_open, round_close, colon, backslash, curly_open}
use Rattle.mk_bytes.specs.Bytes.{curly_close}
use Rattle.mk_for.specs.declared.form.Form.{Form}
use Rattle.mk_for.specs.declared.form.Form.TheVariants.{Curly, Round, Short}
use Rattle.mk_for.specs.declared.substitution.TurnFault.{TurnFault}
use Rattle.mk_for.specs.declared.substitution.TurnFault.TheVariants.{TooLong, NoMemory}

-- The byte that closes what is written in place of a reference.
abbrev pub closer : Form → ℕ
closer Curly = curly_close
closer Round = round_close
closer Short = curly_close

-- A long reference ends at its bracket, or at a colon, behind which its modifiers stand.
abbrev pub ends_name : Form → List ℕ → Bool
ends_name form [] = false
ends_name form (byte ∷ text) = byte == closer form || byte == colon

-- whether a name and its end stand at the start of a text
abbrev pub is_named : Form → List ℕ → List ℕ → Bool
is_named form text name =
    starts_with nat_eq text name && ends_name form (drop (length name) text)

-- Whether the text behind a `$` begins with a reference to a name: `{n` and `(n` with an end
-- behind the name, or a name of one byte.
abbrev pub refers : Form → List ℕ → List ℕ → Bool
refers form [] name = false
refers Curly (byte ∷ text) name = byte == curly_open && is_named Curly text name
refers Round (byte ∷ text) name = byte == round_open && is_named Round text name
refers Short (byte ∷ text) name = length name == 1 && starts_with nat_eq (byte ∷ text) name

-- how many bytes behind the `$` are replaced; the end of a long reference is not among them
abbrev pub reference_len : Form → List ℕ → ℕ
reference_len Curly name = 1 + length name
reference_len Round name = 1 + length name
reference_len Short name = 1

-- what a reference becomes before the quoted word
abbrev pub opening : Form → List ℕ
opening Curly = codes "${:U"
opening Round = codes "$(:U"
opening Short = codes "${:U"

-- and what behind it; a long reference has its own end
abbrev pub closing : Form → List ℕ
closing Curly = []
closing Round = []
closing Short = curly_close ∷ []

-- the bytes that would end or change the text of `:U`
abbrev pub is_special : Form → ℕ → Bool
is_special form byte =
    byte == colon || byte == dollar || byte == backslash || byte == closer form

abbrev pub quoted_byte : Form → ℕ → List ℕ
quoted_byte form byte = if is_special form byte then backslash ∷ byte ∷ [] else byte ∷ []

-- A reference becomes one to the empty name, which is undefined, with the word as its value.
abbrev pub written : Form → List ℕ → List ℕ
written form word = opening form ++ flat_map (quoted_byte form) word ++ closing form

-- a text with its place in a list
abbrev pub text_at : List (List ℕ) → ℕ → List ℕ
text_at texts place = slice_index_or texts place []

-- the place of the first name that is referred to in this form
abbrev pub in_form : Form → List (List ℕ) → List ℕ → Option (Form × ℕ)
in_form form names text = option_map (λ place. (form, place)) (position (refers form text) names)

-- The reference that stands behind a `$`: the forms are tried in this order, and in each of them
-- the names in theirs.
abbrev pub reference : List (List ℕ) → List ℕ → Option (Form × ℕ)
reference names text =
    option_or (in_form Curly names text)
    (option_or (in_form Round names text) (in_form Short names text))

-- how many bytes are read behind a `$`, and what is written for the `$` and for them
abbrev pub Piece : Type 0
Piece = ℕ × List ℕ

-- a reference to a name is written anew, and any other `$` stays
abbrev pub reference_piece : List (List ℕ) → List (List ℕ) → Option (Form × ℕ) → Piece
reference_piece names words None = (0, dollar ∷ [])
reference_piece names words (Some (form, place)) =
    (reference_len form (text_at names place), written form (text_at words place))

-- What stands behind a `$` is read with it: a second `$`, so that `$$` stays, or a reference.
abbrev pub piece : List (List ℕ) → List (List ℕ) → List ℕ → Piece
piece names words text =
    if starts_with nat_eq text (dollar ∷ []) then (1, dollar ∷ dollar ∷ [])
    else reference_piece names words (reference names text)

abbrev pub is_dollar : ℕ → Bool
is_dollar byte = byte == dollar

-- The text behind so many bytes that have been read, with its references replaced. What is written
-- is not read again.
unfoldable pub replaced_behind : List (List ℕ) → List (List ℕ) → ℕ → List ℕ → List ℕ
replaced_behind names words passed [] = []
replaced_behind names words (suc passed) (byte ∷ text) = replaced_behind names words passed text
replaced_behind names words zero (byte ∷ text) =
    if is_dollar byte
    then (piece names words text).1 ++ replaced_behind names words (piece names words text).0 text
    else byte ∷ replaced_behind names words 0 text

-- A text in which each reference to one of these names stands for the word at the name's place.
abbrev pub replaced : List (List ℕ) → List (List ℕ) → List ℕ → List ℕ
replaced names words text = replaced_behind names words 0 text

-- A text that may have so many bytes at most.
abbrev pub within : ℕ → List ℕ → Result (List ℕ) TurnFault
within limit text = if nat_lt limit (length text) then Err TooLong else Ok text

-- why a text is not written: it is too long for this limit, or memory ran out
abbrev pub Refuses : TurnFault → ℕ → List ℕ → Type 0
Refuses fault limit text =
    (fault ≡ NoMemory) ⊎ ((fault ≡ TooLong) × (limit < length text))
