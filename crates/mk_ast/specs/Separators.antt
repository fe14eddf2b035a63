-- The forms of `:tsC`, and the name of `:@name@body@`.
use Rattle.std.specs.Prelude.{ℕ, ◌+◌, ◌*◌, ◌-◌, ◌==◌, ◌||◌, ◌&&◌, nat_le, Bool, true, false, not}
use Rattle.std.specs.Prelude.{if◌then◌else◌, List, [], ◌∷◌, drop, take, Option, Some, None}
use Rattle.std.specs.Prelude.{position, codes}
use Rattle.mk_bytes.specs.Bytes.{is_digit, dollar, at_sign, backslash}
use Rattle.mk_ast.specs.Spell.{closer}
use Rattle.mk_ast.specs.Places.{ends_modifier}
use Rattle.mk_ast.specs.Rows.{begins, is_end}

abbrev pub digit_zero : ℕ
digit_zero = 48

abbrev pub is_octal : ℕ → Bool
is_octal byte = nat_le digit_zero byte && nat_le byte 55

abbrev pub is_hex : ℕ → Bool
is_hex byte =
    is_digit byte || (nat_le 97 byte && nat_le byte 102) || (nat_le 65 byte && nat_le byte 70)

-- a number that one byte has, but 0
abbrev pub is_code : ℕ → Bool
is_code number = nat_le 1 number && nat_le number 255

-- one to three octal digits
abbrev pub is_octal_code : List ℕ → Bool
is_octal_code (a ∷ []) = is_octal a && is_code (a - digit_zero)
is_octal_code (a ∷ b ∷ []) =
    is_octal a && is_octal b && is_code (8 * (a - digit_zero) + (b - digit_zero))
is_octal_code (a ∷ b ∷ c ∷ []) =
    is_octal a && is_octal b && is_octal c
    && is_code (64 * (a - digit_zero) + 8 * (b - digit_zero) + (c - digit_zero))
is_octal_code _ = false

-- one or two hexadecimal digits
abbrev pub is_hex_code : List ℕ → Bool
is_hex_code (a ∷ []) = is_hex a && not (a == digit_zero)
is_hex_code (a ∷ b ∷ []) = is_hex a && is_hex b && not (a == digit_zero && b == digit_zero)
is_hex_code _ = false

abbrev pub is_nil : List ℕ → Bool
is_nil [] = true
is_nil (byte ∷ bytes) = false

-- What follows a backslash: `n` or `t`, `x` and hexadecimal digits, or octal digits.
abbrev pub is_escaped_code : List ℕ → Bool
is_escaped_code [] = false
is_escaped_code (byte ∷ digits) =
    if byte == 110 || byte == 116 then is_nil digits
    else (if byte == 120 then is_hex_code digits
    else is_octal_code (byte ∷ digits))

-- nothing, or a backslash and what may follow it
abbrev pub is_separator : List ℕ → Bool
is_separator [] = true
is_separator (byte ∷ code) = byte == backslash && is_escaped_code code

-- any one byte but the closer, with an end behind it
abbrev pub is_one_byte : Bool → List ℕ → Bool
is_one_byte round [] = false
is_one_byte round (byte ∷ bytes) = not (byte == closer round) && is_end round bytes

abbrev pub checked_len : List ℕ → Option ℕ → Option ℕ
checked_len bytes None = None
checked_len bytes (Some len) = if is_separator (take len bytes) then Some len else None

-- The length of what is written after `ts`: one byte, or one of the forms up to the first end.
abbrev pub separator_len : Bool → List ℕ → Option ℕ
separator_len round bytes =
    if is_one_byte round bytes then Some 1
    else checked_len bytes (position (ends_modifier round) bytes)

-- a byte that no name of `:@` holds
abbrev pub ends_name : ℕ → Bool
ends_name byte = byte == dollar || byte == at_sign

abbrev pub named_len : List ℕ → Option ℕ → Option ℕ
named_len bytes None = None
named_len bytes (Some len) =
    if not (len == 0) && begins (codes "@") (drop len bytes) then Some len else None

-- the length of the name of `:@`, which is not empty and has an `@` behind it
abbrev pub name_len : List ℕ → Option ℕ
name_len bytes = named_len bytes (position ends_name bytes)
