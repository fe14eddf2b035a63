use Rattle.std.proofs.Common.{◌++◌, ◌∙◌, ap, codes, map}
use Rattle.std.specs.List.{concat}
use Rattle.mk_generate.specs.Input as spec
use Rattle.mk_generate.proofs.InputLemmas.{makefile-pieces}
use Rattle.mk_generate.proofs.input.makefile.Goals as goal

pub returns : goal.returns
returns c =
    let n = c.args.n in
    let with_targets = c.in_ok-push_targets.ensures
    ∙ ap (λ text. text ++ concat (map (λ i. spec.spaced (spec.target i)) (spec.below n)))
    c.in_ok-text.ensures in
    let with_phony = c.in_ok-push.ensures.ok ∙ ap (λ text. text ++ codes "\n.PHONY: all\n") with_targets in
    c.in_ok-push_rules.ensures
    ∙ ap (λ text. text ++ concat (map (spec.rule n) (spec.below n))) with_phony
    ∙ makefile-pieces n
