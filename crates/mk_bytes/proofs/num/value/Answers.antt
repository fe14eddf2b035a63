use Rattle.std.proofs.Common.{◌≡◌, ◌+◌, ◌<◌, ◌∷◌, [], ◌++◌, Bool, true, ◌&&◌, take}
use Rattle.std.proofs.Common.{get_or, length, refl, arith}
use Rattle.std.proofs.lemmas.List.{take_more}
use Rattle.std.proofs.lemmas.List.Folds.{list_all-append}
use Rattle.std.proofs.lemmas.Bool.Decides.{nat_tests}
use Rattle.std.specs.Char.{is_digit}
use Rattle.mk_bytes.proofs.NumberLemmas.{value-append, one_more_digit_is_below, power_of_18_digits}
use Rattle.mk_bytes.proofs.num.value.Goals as goal

and_true : (a b : Bool) → a ≡ true → b ≡ true → (a && (b && true)) ≡ true
and_true a b here there = rw (here, there) refl

pub overflow_mul-value : goal.overflow_mul-value
overflow_mul-value c =
    let base = c.args.base in
    let place = c.loop-byte.byte-index in
    let small = c.loop-byte.invariant.small in
    let below = one_more_digit_is_below base place c.loop-byte.value 0 small (omega arith) in
    let power = power_of_18_digits base (place + 1) c.requires.base.1 (omega arith) in
    rw c.from-in-loop-byte.ensures (omega arith)

pub overflow_add-value : goal.overflow_add-value
overflow_add-value c =
    let base = c.args.base in
    let place = c.loop-byte.byte-index in
    let digit = c.in_ok-digit.digit in
    let known = c.in_ok-digit.ensures.value in
    let is : digit < base = omega (arith, known.0, known.1) in
    let small = c.loop-byte.invariant.small in
    let below = one_more_digit_is_below base place c.loop-byte.value digit small is in
    let power = power_of_18_digits base (place + 1) c.requires.base.1 (omega arith) in
    rw (c.from-in-loop-byte.ensures, c.from-in-loop-byte-2.ensures) (omega arith)

pub loop-byte-preserved : goal.loop-byte-preserved
loop-byte-preserved c =
    let digits = c.args.digits.now in
    let base = c.args.base in
    let place = c.loop-byte.byte-index in
    let digit = c.in_ok-digit.digit in
    let known = c.in_ok-digit.ensures.value in
    let before = c.loop-byte.invariant in
    let byte = get_or digits place 0 in
    let more : take (place + 1) digits ≡ take place digits ++ byte ∷ [] =
    take_more digits place 0 (omega arith)
    in
    let passes : is_digit byte base ≡ true = grind (arith, nat_tests, c.from.ensures, known.0) in
    let is : digit < base = omega (arith, known.0, known.1) in
    record {
      digits = rw (more, list_all-append) (and_true _ _ before.digits passes);
      value = rw (more, value-append, c.from-in-loop-byte.ensures, c.from-in-loop-byte-2.ensures)
          (cc (before.value, c.from.ensures, known.1));
      small = rw (c.from-in-loop-byte.ensures, c.from-in-loop-byte-2.ensures)
          (one_more_digit_is_below base place c.loop-byte.value digit before.small is);
    }

pub returns-clause-small : goal.returns-clause-small
returns-clause-small c =
    let all : c.loop-byte.byte-index ≡ length c.args.digits.now = omega arith in
    rw all at c.loop-byte.invariant.small
