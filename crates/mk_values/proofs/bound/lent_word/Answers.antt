use Rattle.std.proofs.Common.{sym, ◌∙◌, arith}
use Rattle.mk_ast.specs.View.{part_view}
use Rattle.mk_values.proofs.LentLemmas.{lends}
use Rattle.mk_values.proofs.bound.lent_word.Goals as goal

pub returns : goal.returns
returns c =
    lends c.args.open_names.now c.args.bound.now (part_view c.args.part.now)
    c.in_ok-name.name.now c.in_ok-word.word.now c.in_ok-name.ensures.name c.in_ok-name.ensures.short
    (sym c.is_among.ensures ∙ c.if-is_among.false) (sym c.in_ok-word.ensures)
    (sym c.has_dollar.ensures ∙ c.if-has_dollar.false) (omega (arith, c.if-word-gt-MAX_TEXT.false))
