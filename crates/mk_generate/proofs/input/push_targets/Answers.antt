use Rattle.std.proofs.Common.{◌++◌, codes, sym, ◌∙◌, ap}
use Rattle.mk_generate.specs.Input as spec
use Rattle.mk_generate.proofs.InputLemmas.{joined-next}
use Rattle.mk_generate.proofs.input.push_targets.Goals as goal

pub loop-i-preserved : goal.loop-i-preserved
loop-i-preserved c =
    let next = joined-next (λ i. spec.spaced (spec.target i)) c.args.text.now c.loop-i.i in
    let digits = c.as_bytes.ensures.value ∙ c.format.ensures.text in
    c.in_ok-push_both.ensures.ok
    ∙ ap (λ digits. c.loop-i.text ++ spec.spaced (codes "o" ++ digits)) digits
    ∙ ap (λ text. text ++ spec.spaced (spec.target c.loop-i.i)) c.loop-i.invariant ∙ sym next
