use Rattle.std.proofs.Common.{◌∙◌, sym, refl}
use Rattle.std.proofs.lemmas.Bool.{ne_eqb}
use Rattle.mk_bytes.specs.Bytes.{newline, backslash}
use Rattle.mk_filemon.proofs.EscapeLemmas.{part-none, part-first}
use Rattle.mk_filemon.proofs.escape.first_unit.Goals as goal

pub returns-in_default-clause-part : goal.returns-in_default-clause-part
returns-in_default-clause-part c =
    part-none c.args.quoted c.args.text.now c.in_default.ensures.cases

pub returns-then-byte-eq92-clause-part : goal.returns-then-byte-eq92-clause-part
returns-then-byte-eq92-clause-part c =
    part-first c.args.quoted c.args.text.now c.in-Some.byte.now c.in-Some.rest.now
    c.in-Some.ensures.cases.0
    ∙ rw c.if-byte-eq92.true c.escape_unit.ensures.part

pub returns-then-byte-eq10-clause-part : goal.returns-then-byte-eq10-clause-part
returns-then-byte-eq10-clause-part c =
    part-first c.args.quoted c.args.text.now c.in-Some.byte.now c.in-Some.rest.now
    c.in-Some.ensures.cases.0
    ∙ rw c.if-byte-eq10.true refl

pub returns-then-is_quote-clause-part : goal.returns-then-is_quote-clause-part
returns-then-is_quote-clause-part c =
    let byte = c.in-Some.byte.now in
    part-first c.args.quoted c.args.text.now byte c.in-Some.rest.now c.in-Some.ensures.cases.0
    ∙ rw (
      ne_eqb byte backslash c.if-byte-eq92.false,
      ne_eqb byte newline c.if-byte-eq10.false,
      sym c.is_quote.ensures ∙ c.if-is_quote.true,
    ) refl

pub returns-clause-part : goal.returns-clause-part
returns-clause-part c =
    let byte = c.in-Some.byte.now in
    part-first c.args.quoted c.args.text.now byte c.in-Some.rest.now c.in-Some.ensures.cases.0
    ∙ rw (
      ne_eqb byte backslash c.if-byte-eq92.false,
      ne_eqb byte newline c.if-byte-eq10.false,
      sym c.is_quote.ensures ∙ c.if-is_quote.false,
    ) refl
