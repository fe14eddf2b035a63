-- How texts are written for others to read.
use Rattle.std.specs.Prelude.{ℕ, ◌==◌, ◌&&◌, ◌+◌, ◌/◌, ◌%◌, Bool, false, not, nat_le, nat_lt, List}
use Rattle.std.specs.Prelude.{[], ◌∷◌, ◌++◌}
use Rattle.std.specs.Prelude.{codes, flat_map, if◌then◌else◌}
use Rattle.std.specs.Str.{is_utf8}
use Rattle.mk_bytes.specs.Bytes.{newline, backslash, quote_mark}
use Rattle.mk_filemon.specs.Escapes.{escaped}

-- a text on a line of its own: a backslash is written `\\`, and a newline `\n`
abbrev pub line_of : List ℕ → List ℕ
line_of text = escaped false text ++ newline ∷ []

-- texts, one a line
abbrev pub lines_of : List (List ℕ) → List ℕ
lines_of texts = flat_map line_of texts

-- a byte of a name in DOT
abbrev pub dot_byte : ℕ → List ℕ
dot_byte byte =
    if byte == quote_mark then codes "\\\""
    else (if byte == backslash then codes "\\\\"
    else (if byte == newline then codes "\\n"
    else byte ∷ []))

-- A name in DOT, in double quotes.
abbrev pub dot_name : List ℕ → List ℕ
dot_name name = codes "\"" ++ flat_map dot_byte name ++ codes "\""

-- a digit of a number in base 16
abbrev pub hex_digit : ℕ → ℕ
hex_digit digit = if nat_lt digit 10 then 48 + digit else 87 + digit

abbrev pub control : ℕ → List ℕ
control byte = codes "\\u00" ++ hex_digit (byte / 16) ∷ hex_digit (byte % 16) ∷ []

-- A byte of a string of JSON. In a text that is not UTF-8, each byte from 128 on is written as the
-- character U+FFFD, which stands for what is not known.
abbrev pub json_byte : Bool → ℕ → List ℕ
json_byte is_text byte =
    if byte == quote_mark then codes "\\\""
    else (if byte == backslash then codes "\\\\"
    else (if nat_lt byte 32 then control byte
    else (if not is_text && nat_le 128 byte then codes "\\ufffd"
    else byte ∷ [])))

-- A string of JSON, in double quotes.
abbrev pub json_string : List ℕ → List ℕ
json_string text = codes "\"" ++ flat_map (json_byte (is_utf8 text)) text ++ codes "\""

-- An array of JSON, an element a line.
abbrev pub array : List (List ℕ) → List ℕ
array [] = codes "[]\n"
array (first ∷ rest) =
    codes "[\n" ++ first ++ flat_map (λ element. codes ",\n" ++ element) rest ++ codes "\n]\n"
