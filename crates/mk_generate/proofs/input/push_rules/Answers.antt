use Rattle.std.proofs.Common.{◌++◌, sym, ◌∙◌, ap}
use Rattle.mk_generate.specs.Input as spec
use Rattle.mk_generate.proofs.InputLemmas.{joined-next}
use Rattle.mk_generate.proofs.input.push_rules.Goals as goal

pub loop-i-preserved : goal.loop-i-preserved
loop-i-preserved c =
    let next = joined-next (spec.rule c.args.n) c.args.text.now c.loop-i.i in
    c.in_ok-push_rule.ensures ∙ ap (λ text. text ++ spec.rule c.args.n c.loop-i.i) c.loop-i.invariant
    ∙ sym next
