use Rattle.std.proofs.Common.{◌+◌, sym, ◌∙◌, ap}
use Rattle.mk_filemon.proofs.CutLemmas.{placed, cut_at-position, rest_is}
use Rattle.mk_filemon.proofs.escape.cut_at.Goals as goal

pub returns-in-Some-clause-parts : goal.returns-in-Some-clause-parts
returns-in-Some-clause-parts c =
    let text = c.args.text.now in
    rw (rest_is (c.in-Some.place + 1) text)
    (sym (cut_at-position c.args.byte text
    ∙ ap (placed text) (sym c.first_place.ensures ∙ c.in-Some.is)))

pub returns-in-None-clause-parts : goal.returns-in-None-clause-parts
returns-in-None-clause-parts c =
    sym (cut_at-position c.args.byte c.args.text.now
    ∙ ap (placed c.args.text.now) (sym c.first_place.ensures ∙ c.in-None.is))
