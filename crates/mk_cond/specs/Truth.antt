-- The truth of a value that stands alone, and of a comparison (make(1), the directive `.if`).
use Rattle.std.specs.Prelude.{ℤ, pos, Bool, true, false, not, if◌then◌else◌, List, [], ℕ}
use Rattle.std.specs.Prelude.{Option, Some, None, Result, Ok, Err, int_le, int_lt}
use Rattle.std.specs.Ordering.{int_eq}
use Rattle.std.specs.Str.{bytes_eq}
use Rattle.mk_bytes.specs.Numbers.{number}
use Rattle.mk_cond.specs.declared.cond.CmpOp.{CmpOp}
use Rattle.mk_cond.specs.declared.cond.CmpOp.TheVariants.{Equal, NotEqual, Less, LessOrEqual}
use Rattle.mk_cond.specs.declared.cond.CmpOp.TheVariants.{Greater, GreaterOrEqual}
use Rattle.mk_cond.specs.declared.fault.NoNumber.{NoNumber}

-- the number that a side is; a quoted one is none
abbrev pub side_number : List ℕ → Bool → Option ℤ
side_number value quoted = if quoted then None else number value

-- a number is true where it is not 0, any other value where it is not empty
abbrev pub is_true : List ℕ → Option ℤ → Bool
is_true value None = not (bytes_eq value [])
is_true value (Some n) = not (int_eq n (pos 0))

-- The truth of a value that stands alone.
abbrev pub truth : List ℕ → Bool → Bool
truth value quoted = is_true value (side_number value quoted)

abbrev pub compare_numbers : CmpOp → ℤ → ℤ → Bool
compare_numbers Equal left right = int_eq left right
compare_numbers NotEqual left right = not (int_eq left right)
compare_numbers Less left right = int_lt left right
compare_numbers LessOrEqual left right = int_le left right
compare_numbers Greater left right = int_lt right left
compare_numbers GreaterOrEqual left right = int_le right left

-- whether an operator asks for an order
abbrev pub asks_order : CmpOp → Bool
asks_order Equal = false
asks_order NotEqual = false
asks_order op = true

abbrev pub no_number : NoNumber
no_number = record {}

-- only equality is asked of texts
abbrev pub compare_texts : CmpOp → List ℕ → List ℕ → Result Bool NoNumber
compare_texts Equal left right = Ok (bytes_eq left right)
compare_texts NotEqual left right = Ok (not (bytes_eq left right))
compare_texts op left right = Err no_number

abbrev pub compare_as : CmpOp → List ℕ → List ℕ → Option ℤ → Option ℤ → Result Bool NoNumber
compare_as op left right (Some m) (Some n) = Ok (compare_numbers op m n)
compare_as op left right m n = compare_texts op left right

-- The truth of a comparison: as numbers where both sides are numbers, else as texts.
abbrev pub compare : List ℕ → Bool → CmpOp → List ℕ → Bool → Result Bool NoNumber
compare left left_quoted op right right_quoted =
    compare_as op left right (side_number left left_quoted) (side_number right right_quoted)
