use Rattle.std.proofs.Common.{◌≡◌, ◌++◌, map}
use Rattle.std.specs.List.{concat}
use Rattle.mk_generate.specs.Input as spec
use Rattle.mk_generate.proofs.input.push_targets.Given as goal

abbrev pub invariant-loop-i : goal.invariant-loop-i
invariant-loop-i l =
    l.text ≡ l.initial.text ++ concat (map (λ i. spec.spaced (spec.target i)) (spec.below l.i))
