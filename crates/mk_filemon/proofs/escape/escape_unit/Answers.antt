use Rattle.std.proofs.Common.{◌∙◌, sym, ap}
use Rattle.mk_filemon.specs.Escapes.{with_escape, part_at}
use Rattle.mk_filemon.proofs.EscapeLemmas.{escape-none, escape-first}
use Rattle.mk_filemon.proofs.escape.escape_unit.Goals as goal

pub returns-in_default-clause-part : goal.returns-in_default-clause-part
returns-in_default-clause-part c =
    escape-none c.args.quoted c.args.text.now c.in_default.ensures.cases

pub returns-in-Some-byte_behind-clause-part : goal.returns-in-Some-byte_behind-clause-part
returns-in-Some-byte_behind-clause-part c =
    escape-first c.args.quoted c.args.text.now c.in-Some.byte.now c.in-Some.rest.now
    c.in-Some.ensures.cases.0
    ∙ ap (λ meant. with_escape meant (part_at c.args.quoted c.in-Some.rest.now))
    (sym c.byte_behind.ensures ∙ c.in-Some-byte_behind.is)

pub returns-in-None-clause-part : goal.returns-in-None-clause-part
returns-in-None-clause-part c =
    escape-first c.args.quoted c.args.text.now c.in-Some.byte.now c.in-Some.rest.now
    c.in-Some.ensures.cases.0
    ∙ ap (λ meant. with_escape meant (part_at c.args.quoted c.in-Some.rest.now))
    (sym c.byte_behind.ensures ∙ c.in-None.is)
