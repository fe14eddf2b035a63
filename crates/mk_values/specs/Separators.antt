-- The byte that is written after `:ts`.
use Rattle.std.specs.Prelude.{ℕ, ◌+◌, ◌*◌, ◌-◌, ◌==◌, nat_le, List, [], ◌∷◌, fold, Option, Some}
use Rattle.std.specs.Prelude.{None, if◌then◌else◌}
use Rattle.mk_bytes.specs.Bytes.{is_digit, newline, tab}
use Rattle.mk_ast.specs.Separators.{digit_zero}

-- the value of a digit, of either case of letters
abbrev pub digit_value : ℕ → ℕ
digit_value byte =
    if is_digit byte then byte - digit_zero else (if nat_le 97 byte then byte - 87 else byte - 55)

-- the byte of a number, where one has it
abbrev pub byte_of : ℕ → Option ℕ
byte_of number = if nat_le number 255 then Some number else None

abbrev pub numbered : ℕ → List ℕ → Option ℕ
numbered base digits = byte_of (fold (λ n byte. base * n + digit_value byte) 0 digits)

-- a byte by its letter or its number
abbrev pub escaped : List ℕ → Option ℕ
escaped [] = None
escaped (byte ∷ digits) =
    if byte == 110 then Some newline
    else (if byte == 116 then Some tab
    else (if byte == 120 then numbered 16 digits else numbered 8 (byte ∷ digits)))

-- The separator: nothing, one byte, or a byte by what follows a backslash.
abbrev pub separator_of : List ℕ → Option ℕ
separator_of [] = None
separator_of (byte ∷ []) = Some byte
separator_of (byte ∷ code) = escaped code
