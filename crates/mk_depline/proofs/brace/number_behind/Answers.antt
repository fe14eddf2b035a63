use Rattle.std.proofs.Common.{◌≡◌, ◌==◌, ◌-◌, ◌≤◌, suc, true, false, get_or, length, refl, sym, ap, arith}
use Rattle.std.proofs.lemmas.Bool.Decides.{nat_tests}
use Rattle.mk_depline.specs.Braces.{place_of}
use Rattle.mk_depline.proofs.NumberLemmas.{length-numbers, number-other, number-drop, number-group, number-skip, number-small, number-unclosed}
use Rattle.mk_depline.proofs.NumberLemmas.{none-number, number-wanted, number-whole, place-within, some-number}
use Rattle.mk_depline.proofs.brace.number_behind.Goals as goal

pub returns-then-byte-wanted : goal.returns-then-byte-wanted
returns-then-byte-wanted c =
    let is : (c.args.byte == c.args.wanted) ≡ true = grind (arith, nat_tests, c.if-byte-wanted.true) in
    sym (number-wanted c.args.wanted c.args.byte c.args.rest.now is)

pub bounds-places-count : goal.bounds-places-count
bounds-places-count c =
    omega (arith, length-numbers c.args.wanted c.args.rest.now, ap length c.requires.places)

pub bounds-closes-count : goal.bounds-closes-count
bounds-closes-count c =
    omega (arith, length-numbers 125 c.args.rest.now, ap length c.requires.closes)

pub moved-requires : goal.moved-requires
moved-requires c =
    let small : get_or c.args.places.now (length c.args.rest.now) 0 ≤ length c.args.rest.now =
    rw (c.requires.places, number-whole c.args.wanted c.args.rest.now)
    (number-small c.args.wanted c.args.rest.now _ refl) in
    omega (arith, small)

pub returns-then-byte-ne123 : goal.returns-then-byte-ne123
returns-then-byte-ne123 c =
    let is : (c.args.byte == c.args.wanted) ≡ false = grind (arith, nat_tests, c.if-byte-wanted.false) in
    let opens : (c.args.byte == 123) ≡ false = grind (arith, nat_tests, c.if-byte-ne123.true) in
    rw (c.moved.ensures, c.requires.places, number-whole c.args.wanted c.args.rest.now)
    (sym (number-other c.args.wanted c.args.byte c.args.rest.now is opens))

pub returns-then-close-eq0 : goal.returns-then-close-eq0
returns-then-close-eq0 c =
    let is : (123 == c.args.wanted) ≡ false = grind (arith, nat_tests, c.requires.wanted) in
    let zero = rw (c.requires.closes, number-whole 125 c.args.rest.now) at c.if-close-eq0.true in
    rw c.if-byte-ne123.false (sym (number-unclosed c.args.wanted c.args.rest.now is
    (none-number (place_of 125 c.args.rest.now) zero)))

pub returns : goal.returns
returns c =
    let is : (123 == c.args.wanted) ≡ false = grind (arith, nat_tests, c.requires.wanted) in
    let some = rw (c.requires.closes, number-whole 125 c.args.rest.now) at c.if-close-eq0.false in
    let found = some-number (place_of 125 c.args.rest.now) some in
    let within : suc found.0 ≤ length c.args.rest.now = place-within 125 0 found.0 c.args.rest.now found.1 in
    rw (
      c.moved-2.ensures,
      c.requires.closes,
      c.requires.places,
      number-whole 125 c.args.rest.now,
      found.1,
      number-drop c.args.wanted c.args.rest.now (suc found.0) within,
      c.if-byte-ne123.false,
    ) (sym (number-group c.args.wanted c.args.rest.now found.0 is found.1))

pub offset_bounds-places-count : goal.offset_bounds-places-count
offset_bounds-places-count c =
    omega (arith, length-numbers c.args.wanted c.args.rest.now, ap length c.requires.places)

pub offset_bounds-closes-count : goal.offset_bounds-closes-count
offset_bounds-closes-count c =
    omega (arith, length-numbers 125 c.args.rest.now, ap length c.requires.closes)

pub overflow_sub-count : goal.overflow_sub-count
overflow_sub-count c =
    let small : get_or c.args.closes.now (length c.args.rest.now) 0 ≤ length c.args.rest.now =
    rw (c.requires.closes, number-whole 125 c.args.rest.now) (number-small 125 c.args.rest.now _ refl) in
    omega (arith, small)

pub bounds-places-count-2 : goal.bounds-places-count-2
bounds-places-count-2 c =
    omega (arith, length-numbers c.args.wanted c.args.rest.now, ap length c.requires.places)

pub overflow_add-close : goal.overflow_add-close
overflow_add-close c =
    let small : get_or c.args.closes.now (length c.args.rest.now) 0 ≤ length c.args.rest.now =
    rw (c.requires.closes, number-whole 125 c.args.rest.now) (number-small 125 c.args.rest.now _ refl) in
    omega (arith, small)

pub moved-requires-2 : goal.moved-requires-2
moved-requires-2 c =
    let close = get_or c.args.closes.now (length c.args.rest.now) 0 in
    let small : close ≤ length c.args.rest.now =
    rw (c.requires.closes, number-whole 125 c.args.rest.now) (number-small 125 c.args.rest.now _ refl) in
    let skip : get_or c.args.places.now (length c.args.rest.now - close) 0 ≤ length c.args.rest.now - close =
    rw c.requires.places (number-skip c.args.wanted c.args.rest.now close small) in
    omega (arith, small, skip)
