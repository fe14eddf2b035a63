use Rattle.std.proofs.Common.{◌≡◌, ◌-◌, length, take, drop, sym, ap, ◌∙◌, arith}
use Rattle.std.proofs.lemmas.Grind.{common_steps}
use Rattle.mk_directive.specs.Arguments.{is_in}
use Rattle.mk_directive.proofs.InLemmas.{in_at-here, in_at-next, in_at-over}
use Rattle.mk_directive.proofs.argument.in_place.Goals as goal

pub returns-then-is_in-clause-value : goal.returns-then-is_in-clause-value
returns-then-is_in-clause-value c =
    let text = c.args.text.now in
    let at = c.loop-at.at in
    let rest : take (length text - at) (drop at text) ≡ drop at text = grind (arith, common_steps) in
    sym (in_at-here c.loop-at.begins at text c.loop-at-test.true
    (ap (is_in c.loop-at.begins) (sym rest) ∙ sym c.is_in.ensures ∙ c.if-is_in.true))
    ∙ c.loop-at.invariant

pub loop-at-preserved : goal.loop-at-preserved
loop-at-preserved c =
    let text = c.args.text.now in
    let at = c.loop-at.at in
    let rest : take (length text - at) (drop at text) ≡ drop at text = grind (arith, common_steps) in
    rw c.is_white-begins.ensures
    (sym (in_at-next c.loop-at.begins at text c.loop-at-test.true
    (ap (is_in c.loop-at.begins) (sym rest) ∙ sym c.is_in.ensures ∙ c.if-is_in.false))
    ∙ c.loop-at.invariant)

pub returns-clause-value : goal.returns-clause-value
returns-clause-value c =
    sym (in_at-over c.loop-at.begins c.loop-at.at c.args.text.now (omega arith))
    ∙ c.loop-at.invariant
