-- Texts in quotes, as strace writes them: with escapes of letters, octal and hexadecimal digits.
use Rattle.std.specs.Prelude.{ℕ, ◌==◌, ◌||◌, ◌&&◌, ◌+◌, ◌*◌, ◌-◌, nat_le, List, [], ◌∷◌, ◌++◌}
use Rattle.std.specs.Prelude.{Option, Some, None, option_and_then, if◌then◌else◌}
use Rattle.std.specs.Option.{option_map}
use Rattle.mk_strace.specs.declared.quoted.Escape.{Escape}
use Rattle.mk_strace.specs.declared.quoted.Escape.TheVariants.{No, Begun, Octal, Hex, HexBehind}
use Rattle.mk_strace.specs.declared.quoted.Meant.{Meant}

-- the value of a digit: `0` 48, `7` 55, `9` 57, `a` 97, `f` 102
abbrev pub octal : ℕ → Option ℕ
octal byte = if nat_le 48 byte && nat_le byte 55 then Some (byte - 48) else None

abbrev pub hex : ℕ → Option ℕ
hex byte =
    if nat_le 48 byte && nat_le byte 57 then Some (byte - 48)
    else (if nat_le 97 byte && nat_le byte 102 then Some (byte - 97 + 10) else None)

-- `\n`, `\t`, `\r`, `\v`, `\f`, `\"` and `\\`
abbrev pub named : ℕ → Option ℕ
named letter =
    if letter == 110 then Some 10
    else (if letter == 116 then Some 9
    else (if letter == 114 then Some 13
    else (if letter == 118 then Some 11
    else (if letter == 102 then Some 12
    else (if letter == 34 || letter == 92 then Some letter else None)))))

abbrev pub means : Option ℕ → Option ℕ → Escape → Option Meant
means before byte escape = Some (record { before = before; byte = byte; escape = escape })

-- A byte outside of escapes, behind one that ended before it: a raw quote is no part of a text.
abbrev pub plain : Option ℕ → ℕ → Option Meant
plain before byte =
    if byte == 92 then means before None Begun
    else (if byte == 34 then None else means before (Some byte) No)

abbrev pub begun_by : ℕ → Option ℕ → Option ℕ → Option Meant
begun_by byte (Some digit) other = means None None (Octal 1 digit)
begun_by byte None (Some other) = means None (Some other) No
begun_by byte None None = None

abbrev pub begun : ℕ → Option Meant
begun byte = if byte == 120 then means None None Hex else begun_by byte (octal byte) (named byte)

-- one more octal digit, of at most three, with a value below 256
abbrev pub octal_more : ℕ → ℕ → ℕ → Option Meant
octal_more count value digit =
    if nat_le 32 value then None
    else (if nat_le 2 count then means None (Some (value * 8 + digit)) No
    else means None None (Octal 2 (value * 8 + digit)))

abbrev pub octal_by : ℕ → ℕ → ℕ → Option ℕ → Option Meant
octal_by count value byte None = plain (Some value) byte
octal_by count value byte (Some digit) = octal_more count value digit

abbrev pub octal_behind : ℕ → ℕ → ℕ → Option Meant
octal_behind count value byte = octal_by count value byte (octal byte)

abbrev pub hex_first : ℕ → Option Meant
hex_first byte = option_and_then (λ digit. means None None (HexBehind digit)) (hex byte)

abbrev pub hex_second : ℕ → ℕ → Option Meant
hex_second first byte = option_and_then
    (λ digit. if nat_le 16 first then None else means None (Some (first * 16 + digit)) No)
    (hex byte)

-- what one more byte stands for
abbrev pub meant_by : Escape → ℕ → Option Meant
meant_by No byte = plain None byte
meant_by Begun byte = begun byte
meant_by (Octal count value) byte = octal_behind count value byte
meant_by Hex byte = hex_first byte
meant_by (HexBehind first) byte = hex_second first byte

abbrev pub bytes_of : Option ℕ → List ℕ
bytes_of None = []
bytes_of (Some byte) = byte ∷ []

abbrev pub bytes_meant : Meant → List ℕ
bytes_meant one = bytes_of one.before ++ bytes_of one.byte

abbrev pub last_of : Escape → Option (Option ℕ)
last_of No = Some None
last_of Begun = None
last_of (Octal count value) = Some (Some value)
last_of Hex = None
last_of (HexBehind first) = None

-- what is read behind an escape that has come so far
unfoldable pub unquoted_behind : Escape → List ℕ → Option (List ℕ)
unquoted_behind escape [] = option_map bytes_of (last_of escape)
unquoted_behind escape (byte ∷ text) = option_and_then
    (λ one. option_map (λ more. bytes_meant one ++ more) (unquoted_behind one.escape text))
    (meant_by escape byte)

-- The bytes that a text between quotes stands for.
abbrev pub unquoted : List ℕ → Option (List ℕ)
unquoted text = unquoted_behind No text
