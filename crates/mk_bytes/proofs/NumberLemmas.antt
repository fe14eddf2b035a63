-- The value of digits, and how large it can be.
use Rattle.std.proofs.Common.{◌≡◌, ℕ, zero, suc, ◌+◌, ◌-◌, ◌*◌, ◌^◌, ◌<◌, ◌≤◌, List, [], ◌∷◌, ◌++◌}
use Rattle.std.proofs.Common.{length, take, arith, length-append, lit<}
use Rattle.std.proofs.Math.Nat.{pow-le-pow_left, pow-le-pow_right, mul-le-mul, mul-le-mul_left, mul-le-mul_right}
use Rattle.std.proofs.lemmas.Grind.{common_steps, pow_more}
use Rattle.std.specs.Char.{digit_value}
use Rattle.mk_bytes.specs.Numbers.{value}

-- one more digit moves those before it up by one place
pub value-append : (base : ℕ) (digits : List ℕ) (digit : ℕ)
    → value base (digits ++ digit ∷ []) ≡ value base digits * base + digit_value digit
value-append base [] digit = grind (arith, common_steps)
value-append base (first ∷ digits) digit =
    rw (value-append base digits digit)
    (rw (length-append digits (digit ∷ []), pow_more base (length digits)) (omega arith))

-- fewer digits have no greater value
pub value-take : (base count : ℕ) (digits : List ℕ) → 0 < base
    → value base (take count digits) ≤ value base digits
value-take base count [] some = grind (arith, common_steps)
value-take base zero (digit ∷ digits) some = omega arith
value-take base (suc count) (digit ∷ digits) some =
    let rest : value base (take count digits) ≤ value base digits =
    value-take base count digits some
    in
    let few : length (take count digits) ≤ length digits = grind (arith, common_steps) in
    let places : base ^ length (take count digits) ≤ base ^ length digits =
    pow-le-pow_right some few
    in
    let first : digit_value digit * base ^ length (take count digits)
    ≤ digit_value digit * base ^ length digits = mul-le-mul_left (digit_value digit) places
    in
    omega arith

-- one more digit keeps a number below the power of its base
pub one_more_digit_is_below : (base places number digit : ℕ) → number < base ^ places
    → digit < base → number * base + digit < base ^ (places + 1)
one_more_digit_is_below base places number digit small is =
    let more : suc number * base ≤ base ^ places * base = mul-le-mul_right base small in
    rw pow_more (omega arith)

-- a power of a base of at most 16, of at most 18 digits
pub power_of_18_digits : (base places : ℕ) → base ≤ 16 → places ≤ 18 → base ^ places ≤ 2 ^ 72
power_of_18_digits base places small few =
    let base_small : base ^ places ≤ 16 ^ places = pow-le-pow_left small places in
    let few_places : 16 ^ places ≤ 16 ^ 18 = pow-le-pow_right (lit< tt) few in
    omega arith

-- what is below a power of fewer digits is below the power of more
below_larger_power : (base places most number : ℕ) → 0 < base → number < base ^ places
    → places ≤ most → number < base ^ most
below_larger_power base places most number some small few =
    let more : base ^ places ≤ base ^ most = pow-le-pow_right some few in omega arith

-- 16 hexadecimal digits, counted in units of the last decimal place
pub hexadecimal_is_small : (count number : ℕ) → number < 16 ^ count → count ≤ 16
    → number * 10 ^ 18 < 2 ^ 127
hexadecimal_is_small count number small few =
    let below : number < 16 ^ 16 = below_larger_power 16 count 16 number (lit< tt) small few in
    omega arith

-- a fraction stays small where its point is moved
fraction_is_small : (places number : ℕ) → number < 10 ^ places → places ≤ 18
    → number * 10 ^ (18 - places) ≤ 10 ^ 36
fraction_is_small places number small few =
    let below : number < 10 ^ 18 = below_larger_power 10 places 18 number (lit< tt) small few in
    let power : 10 ^ (18 - places) ≤ 10 ^ 18 =
    pow-le-pow_right (lit< tt) {i = 18 - places} {j = 18} (omega arith)
    in
    let product : number * 10 ^ (18 - places) ≤ 10 ^ 18 * 10 ^ 18 =
    mul-le-mul {n₁ = number} {n₂ = 10 ^ 18} (omega arith) power
    in
    product

-- 18 decimal digits and a fraction, counted in units of the last decimal place
pub decimal_is_small : (count places whole fraction : ℕ) → whole < 10 ^ count → count ≤ 18
    → fraction < 10 ^ places → places ≤ 18
    → whole * 10 ^ 18 + fraction * 10 ^ (18 - places) < 2 ^ 127
decimal_is_small count places whole fraction small few fraction_small few_places =
    let above : whole < 10 ^ 18 = below_larger_power 10 count 18 whole (lit< tt) small few in
    let below = fraction_is_small places fraction fraction_small few_places in
    omega arith
