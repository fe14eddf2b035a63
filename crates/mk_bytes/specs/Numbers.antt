-- Numbers, as conditions compare them (make(1), the directive `.if`): an optional sign, and then
-- decimal digits with an optional point, or `0x` and hexadecimal digits. A number is seen as its
-- value times 10^18, which is an integer.
use Rattle.std.specs.Prelude.{ℕ, ◌+◌, ◌-◌, ◌*◌, ◌^◌, ℤ, pos, neg_ℤ, Bool, not, ◌==◌, ◌&&◌, nat_eq}
use Rattle.std.specs.Prelude.{nat_le, List, [], ◌∷◌, length, drop, Option, Some, None}
use Rattle.std.specs.Prelude.{if◌then◌else◌, codes}
use Rattle.std.specs.Char.{is_digit, digit_value}
use Rattle.std.specs.List.{list_all, starts_with, before_first, after_first}
use Rattle.std.specs.Option.{option_map}
use Rattle.std.specs.Str.{bytes_eq}
use Rattle.mk_bytes.specs.Bytes.{plus, minus, dot}

-- how many digits may stand behind the point: numbers are counted in units of the last of them
abbrev pub places : ℕ
places = 18

-- the value of digits in a base: a digit counts as often as the digits behind it have values
abbrev pub value : ℕ → List ℕ → ℕ
value base [] = 0
value base (digit ∷ digits) = digit_value digit * base ^ length digits + value base digits

abbrev pub are_digits : ℕ → List ℕ → Bool
are_digits base text = list_all (λ byte. is_digit byte base) text

-- a number of decimal digits, with leading zeros if any, up to a greatest one
abbrev pub number_up_to : ℕ → List ℕ → Option ℕ
number_up_to most text =
    if not (bytes_eq text []) && are_digits 10 text && nat_le (value 10 text) most
    then Some (value 10 text)
    else None

abbrev pub has_length : ℕ → ℕ → List ℕ → Bool
has_length least most text = nat_le least (length text) && nat_le (length text) most

abbrev pub is_point : ℕ → Bool
is_point byte = byte == dot

-- 1 to 18 digits, and after a point 0 to 18 more
abbrev pub is_decimal : List ℕ → List ℕ → Bool
is_decimal whole fraction =
    has_length 1 places whole && has_length 0 places fraction
    && are_digits 10 whole && are_digits 10 fraction

abbrev pub decimal : List ℕ → List ℕ → Option ℕ
decimal whole fraction =
    if is_decimal whole fraction
    then Some (value 10 whole * 10 ^ places + value 10 fraction * 10 ^ (places - length fraction))
    else None

-- 1 to 16 digits, with letters of both cases
abbrev pub hexadecimal : List ℕ → Option ℕ
hexadecimal text =
    if has_length 1 16 text && are_digits 16 text then Some (value 16 text * 10 ^ places) else None

-- a number without its sign
abbrev pub magnitude : List ℕ → Option ℕ
magnitude text =
    if starts_with nat_eq text (codes "0x") then hexadecimal (drop 2 text)
    else decimal (before_first is_point text) (after_first is_point text)

-- A number, and nothing for every other text.
abbrev pub number : List ℕ → Option ℤ
number [] = None
number (byte ∷ rest) =
    if byte == minus then option_map (λ n. neg_ℤ (pos n)) (magnitude rest)
    else (if byte == plus then option_map pos (magnitude rest)
    else option_map pos (magnitude (byte ∷ rest)))
