use Rattle.std.proofs.Common.{◌≡◌, ℕ, ◌+◌, ◌*◌, ◌<◌, ◌∷◌, [], ◌++◌, Bool, true, ◌&&◌, take}
use Rattle.std.proofs.Common.{None, Some, nat_le, if◌then◌else◌, get_or, refl, arith, lit<}
use Rattle.std.proofs.lemmas.List.{take_more}
use Rattle.std.proofs.lemmas.List.Folds.{list_all-append}
use Rattle.std.proofs.lemmas.Bool.Decides.{nat_tests}
use Rattle.std.specs.Char.{is_digit}
use Rattle.mk_bytes.specs.Numbers.{value}
use Rattle.mk_bytes.proofs.NumberLemmas.{value-append, value-take}
use Rattle.mk_bytes.proofs.num.number_up_to.Goals as goal

and_true : (a b : Bool) → a ≡ true → b ≡ true → (a && (b && true)) ≡ true
and_true a b here there = rw (here, there) refl

too_large_is_refused : (most value : ℕ) (others : Bool) → most < value
    → None ≡ (if others && nat_le value most then Some value else None)
too_large_is_refused most value others above = grind (arith, nat_tests)

pub returns-then-number-most : goal.returns-then-number-most
returns-then-number-most c =
    let digits = c.args.text.now in
    let place = c.loop-byte.byte-index in
    let known = c.in_ok-digit.ensures.value in
    let byte = get_or digits place 0 in
    let more : take (place + 1) digits ≡ take place digits ++ byte ∷ [] =
    take_more digits place 0 (omega arith)
    in
    let is : value 10 (take (place + 1) digits) ≡ c.loop-byte.number * 10 + c.in_ok-digit.digit =
    rw (more, value-append) (cc (c.loop-byte.invariant.value, c.from.ensures, known.1))
    in
    let least = value-take 10 (place + 1) digits (lit< tt) in
    record {
      value = too_large_is_refused c.args.most (value 10 digits) _ (omega (arith, is, least));
      most = tt;
    }

pub loop-byte-preserved : goal.loop-byte-preserved
loop-byte-preserved c =
    let digits = c.args.text.now in
    let place = c.loop-byte.byte-index in
    let known = c.in_ok-digit.ensures.value in
    let before = c.loop-byte.invariant in
    let byte = get_or digits place 0 in
    let more : take (place + 1) digits ≡ take place digits ++ byte ∷ [] =
    take_more digits place 0 (omega arith)
    in
    let passes : is_digit byte 10 ≡ true = grind (arith, nat_tests, c.from.ensures, known.0) in
    record {
      digits = rw (more, list_all-append) (and_true _ _ before.digits passes);
      value = rw (more, value-append) (cc (before.value, c.from.ensures, known.1));
      small = omega arith;
    }
