-- Numbers of many digits.
use Rattle.std.proofs.Common.{◌≡◌, ℕ, ◌+◌, ◌*◌, ◌≤◌, ◌<◌, List, [], ◌∷◌, None, fold, arith}
use Rattle.std.proofs.Math.Nat.{le-mul_of_pos_right}
use Rattle.std.proofs.lemmas.Bool.Decides.{nat_tests}
use Rattle.mk_values.specs.Separators.{digit_value, byte_of}

-- a number does not fall behind more digits
grows : (base n : ℕ) (digits : List ℕ) → 1 ≤ base
    → n ≤ fold (λ n byte. base * n + digit_value byte) n digits
grows base n [] least = omega arith
grows base n (byte ∷ digits) least =
    let rest = grows base (base * n + digit_value byte) digits least in
    let times : n ≤ n * base = le-mul_of_pos_right n least in
    omega (arith, rest, times)

pub no_byte : (base n : ℕ) (digits : List ℕ) → 1 ≤ base → 255 < n
    → byte_of (fold (λ n byte. base * n + digit_value byte) n digits) ≡ None
no_byte base n digits least large =
    let more = grows base n digits least in
    grind (arith, nat_tests, more, large)
