use Rattle.std.proofs.Common.{sym, ◌∙◌}
use Rattle.mk_ast.proofs.PlainTexts.{text_in-plain}
use Rattle.mk_ast.proofs.run.plain_text_len.Goals as goal

pub returns-then-is_over-clause-plain : goal.returns-then-is_over-clause-plain
returns-then-is_over-clause-plain c =
    let over = rw c.skip.ensures at (sym c.is_over.ensures.same ∙ c.if-is_over.true) in
    λ refs. text_in-plain refs c.args.place c.plain_run-len.result.0 c.args.text.now
    c.plain_run-len.result.1 c.if-len-gt0.true c.plain_run-len.ensures.within
    c.plain_run-len.ensures.run over
