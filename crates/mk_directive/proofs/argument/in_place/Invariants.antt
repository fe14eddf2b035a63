use Rattle.std.proofs.Common.{◌≡◌, ◌+◌, true, drop}
use Rattle.std.specs.Option.{option_map}
use Rattle.mk_directive.specs.Arguments.{in_at}
use Rattle.mk_directive.proofs.argument.in_place.Given as goal

-- the first such word is in the rest
abbrev pub invariant-loop-at : goal.invariant-loop-at
invariant-loop-at l =
    option_map (λ k. k + l.at) (in_at l.begins (drop l.at l.text)) ≡ in_at true l.text
