-- How texts are written on one line: a backslash, a newline, and a quote within quotes are escaped.
use Rattle.std.specs.Prelude.{ℕ, ◌==◌, ◌&&◌, ◌||◌, ◌^◌, Bool, true, false, not, nat_lt, List, []}
use Rattle.std.specs.Prelude.{◌∷◌}
use Rattle.std.specs.Prelude.{flat_map}
use Rattle.std.specs.List.{prefix_len}
use Rattle.std.specs.Prelude.{Option, Some, None, if◌then◌else◌, decimal}
use Rattle.std.specs.Option.{option_map}
use Rattle.std.specs.Str.{bytes_eq}
use Rattle.std.specs.Str.Parse.{digits_value}
use Rattle.mk_bytes.specs.Bytes.{newline, backslash}

abbrev pub quote : ℕ
quote = 39

abbrev pub letter_n : ℕ
letter_n = 110

abbrev pub is_quote : Bool → ℕ → Bool
is_quote quoted byte = quoted && byte == quote

-- a byte as it is written
abbrev pub escaped_byte : Bool → ℕ → List ℕ
escaped_byte quoted byte =
    if byte == backslash then backslash ∷ backslash ∷ []
    else (if byte == newline then backslash ∷ letter_n ∷ []
    else (if is_quote quoted byte then backslash ∷ quote ∷ []
    else byte ∷ []))

-- A text as it is written, within quotes or not.
abbrev pub escaped : Bool → List ℕ → List ℕ
escaped quoted text = flat_map (escaped_byte quoted) text

-- how many bytes a text begins with that are written and read as themselves
abbrev pub is_plain : Bool → ℕ → Bool
is_plain quoted byte = not (byte == backslash || (byte == newline || is_quote quoted byte))

abbrev pub plain_len : Bool → List ℕ → ℕ
plain_len quoted text = prefix_len (is_plain quoted) text

-- the byte that an escape stands for
abbrev pub byte_behind : Bool → ℕ → Option ℕ
byte_behind quoted byte =
    if byte == backslash then Some backslash
    else (if byte == letter_n then Some newline
    else (if is_quote quoted byte then Some quote
    else None))

-- what is read, and the bytes behind it
abbrev pub Part : Type 0
Part = Option (List ℕ × List ℕ)

abbrev pub with_byte : ℕ → Part → Part
with_byte byte part = option_map (λ found. (byte ∷ found.0, found.1)) part

abbrev pub with_escape : Option ℕ → Part → Part
with_escape None part = None
with_escape (Some byte) part = with_byte byte part

-- the end of a text, which is missing where a quote is open
abbrev pub at_end : Bool → Part
at_end quoted = if quoted then None else Some ([], [])

-- A text that is written so, up to the quote that ends it, or to the end; where a backslash stands
-- before it, an escape is open. A raw newline is no part of one, nor is another escape.
unfoldable pub part_behind : Bool → Bool → List ℕ → Part
part_behind quoted true [] = None
part_behind quoted false [] = at_end quoted
part_behind quoted true (byte ∷ text) =
    with_escape (byte_behind quoted byte) (part_behind quoted false text)
part_behind quoted false (byte ∷ text) =
    if byte == backslash then part_behind quoted true text
    else (if byte == newline then None
    else (if is_quote quoted byte then Some ([], text)
    else with_byte byte (part_behind quoted false text)))

abbrev pub part_at : Bool → List ℕ → Part
part_at quoted text = part_behind quoted false text

-- A whole text that is written so without quotes.
abbrev pub unescaped : List ℕ → Option (List ℕ)
unescaped text = option_map (λ found. found.0) (part_at false text)

-- The number below 2^64 that is written so: decimal digits without leading zeros.
abbrev pub number_in : List ℕ → Option ℕ
number_in text =
    if bytes_eq (decimal (digits_value 10 text)) text && nat_lt (digits_value 10 text) (2 ^ 64)
    then Some (digits_value 10 text) else None

-- What stands before the first of a byte, and what stands behind it.
unfoldable pub cut_at : ℕ → List ℕ → Part
cut_at byte [] = None
cut_at byte (first ∷ text) =
    if first == byte then Some ([], text) else with_byte first (cut_at byte text)
