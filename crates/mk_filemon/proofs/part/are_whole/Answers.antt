use Rattle.std.proofs.Common.{◌∙◌, arith}
use Rattle.mk_filemon.proofs.LogLemmas.{whole-line, whole-last}
use Rattle.mk_filemon.proofs.part.are_whole.Goals as goal

pub lines-preserved : goal.lines-preserved
lines-preserved c = (
  whole-line c.lines.part c.after_line-part.result c.lines.rest.now c.in-Some.line.now
      c.in-Some.after.now c.in-Some.ensures.parts c.after_line-part.ensures.after
      ∙ c.lines.invariant.0,
  omega (arith, c.lines.invariant.1, c.in-Some.ensures.shorter, c.after_line-part.ensures.counted),
)

pub returns : goal.returns
returns c =
    c.may_end.ensures
    ∙ whole-last c.lines.part c.lines.rest.now c.in_default.ensures.parts
    ∙ c.lines.invariant.0
