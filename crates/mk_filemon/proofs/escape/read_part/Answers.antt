use Rattle.std.proofs.Common.{◌∙◌, [], refl, sym, ap}
use Rattle.mk_filemon.specs.Escapes.{part_at}
use Rattle.mk_filemon.proofs.EscapeLemmas.{ends-by, fails-by, special-is, with_bytes, with_bytes-byte}
use Rattle.mk_filemon.proofs.escape.read_part.Goals as goal

pub units-preserved : goal.units-preserved
units-preserved c =
    let quoted = c.args.quoted in
    let out = c.push_plain.new.out in
    let after = c.in-Byte.after.now in
    ap (λ bytes. with_bytes bytes (part_at quoted after)) c.in_ok-push-in-Byte.ensures.ok
    ∙ with_bytes-byte out c.in-Byte.byte (part_at quoted after)
    ∙ ap (with_bytes out) (sym c.in-Byte.ensures.part)
    ∙ special-is quoted c.args.text.now c.units.part c.units.rest.now out c.in_ok-special.special.now
    c.units.invariant c.in_ok-special.ensures.pushed c.in_ok-special.ensures.rest

pub returns-in-Close : goal.returns-in-Close
returns-in-Close c =
    let special = c.in_ok-special.special.now in
    ends-by c.args.quoted c.args.text.now c.push_plain.new.out special c.in-Close.after.now
    (special-is c.args.quoted c.args.text.now c.units.part c.units.rest.now c.push_plain.new.out special
    c.units.invariant c.in_ok-special.ensures.pushed c.in_ok-special.ensures.rest)
    c.in-Close.ensures.part

pub returns-in-End : goal.returns-in-End
returns-in-End c =
    let special = c.in_ok-special.special.now in
    fails-by c.args.quoted c.args.text.now c.push_plain.new.out special
    (special-is c.args.quoted c.args.text.now c.units.part c.units.rest.now c.push_plain.new.out special
    c.units.invariant c.in_ok-special.ensures.pushed c.in_ok-special.ensures.rest)
    (c.in-End.ensures.part ∙ rw c.if-quoted.true refl)

pub returns-in-End-2 : goal.returns-in-End-2
returns-in-End-2 c =
    let special = c.in_ok-special.special.now in
    ends-by c.args.quoted c.args.text.now c.push_plain.new.out special []
    (special-is c.args.quoted c.args.text.now c.units.part c.units.rest.now c.push_plain.new.out special
    c.units.invariant c.in_ok-special.ensures.pushed c.in_ok-special.ensures.rest)
    (c.in-End-2.ensures.part ∙ rw c.if-quoted.false refl)

pub returns-in-Bad : goal.returns-in-Bad
returns-in-Bad c =
    let special = c.in_ok-special.special.now in
    fails-by c.args.quoted c.args.text.now c.push_plain.new.out special
    (special-is c.args.quoted c.args.text.now c.units.part c.units.rest.now c.push_plain.new.out special
    c.units.invariant c.in_ok-special.ensures.pushed c.in_ok-special.ensures.rest)
    c.in-Bad.ensures.part
