-- The numbers that options take: decimal digits alone, with leading zeros if any.
use Rattle.std.specs.Prelude.{ℕ, Bool, ◌&&◌, nat_le, List, Result, Ok, Err, if◌then◌else◌}
use Rattle.mk_bytes.specs.Numbers.{are_digits, value}
use Rattle.mk_cli.specs.declared.order.Usage.{Usage}
use Rattle.mk_cli.specs.declared.order.Usage.TheVariants.{Word}

-- whether a text is a number from 1 to the most that is allowed; an empty one has the value 0
abbrev pub is_number : ℕ → List ℕ → Bool
is_number most text =
    are_digits 10 text && nat_le 1 (value 10 text) && nat_le (value 10 text) most

-- a bad number refuses the word that holds it
abbrev pub number : ℕ → ℕ → List ℕ → Result ℕ Usage
number most place text = if is_number most text then Ok (value 10 text) else Err (Word place)
