use Rattle.std.proofs.Common.{sym, ◌∙◌, arith}
use Rattle.mk_makefile.proofs.SignLemmas.{equals_at-here, equals_at-next, equals_at-over}
use Rattle.mk_makefile.proofs.sign.first_equals.Goals as goal

pub returns-then-is_sign-clause-value : goal.returns-then-is_sign-clause-value
returns-then-is_sign-clause-value c =
    sym (equals_at-here c.loop-at.depth c.loop-at.at c.args.line.now c.loop-at-test.true
    (sym c.is_sign.ensures ∙ c.if-is_sign.true))
    ∙ c.loop-at.invariant.same

pub loop-at-preserved : goal.loop-at-preserved
loop-at-preserved c = record {
  same = rw c.depth_behind-depth.ensures.value
      (sym (equals_at-next c.loop-at.depth c.loop-at.at c.args.line.now c.loop-at-test.true
      (sym c.is_sign.ensures ∙ c.if-is_sign.false))
      ∙ c.loop-at.invariant.same);
  small = omega (arith, c.depth_behind-depth.ensures.small, c.loop-at.invariant.small);
}

pub returns-clause-value : goal.returns-clause-value
returns-clause-value c =
    sym (equals_at-over c.loop-at.depth c.loop-at.at c.args.line.now (omega arith))
    ∙ c.loop-at.invariant.same
