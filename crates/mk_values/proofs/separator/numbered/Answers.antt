use Rattle.std.proofs.Common.{◌+◌, ◌*◌, ◌<◌, drop, get_or, sym, arith}
use Rattle.std.proofs.lemmas.List.{drop_more}
use Rattle.mk_values.specs.Separators.{digit_value}
use Rattle.mk_values.proofs.SeparatorLemmas.{no_byte}
use Rattle.mk_values.proofs.separator.numbered.Goals as goal

pub returns-then-number-gt255 : goal.returns-then-number-gt255
returns-then-number-gt255 c =
    let l = c.loop-digit in
    let digits = c.args.digits.now in
    let here = drop_more digits l.digit-index 0 c.loop-digit-test.true in
    let large : 255 < c.args.base * l.number + digit_value (get_or digits l.digit-index 0) =
    omega (arith, c.if-number-gt255.true, c.digit_value.ensures.value) in
    rw (← l.invariant.value, here)
    (sym (no_byte c.args.base _ (drop (l.digit-index + 1) digits) c.requires.least large))
