use Rattle.std.proofs.Common.{◌≡◌, drop}
use Rattle.mk_depline.specs.Lines.{first_rule, rule_named}
use Rattle.mk_suffix.proofs.rule.second_part.Given as goal

-- no suffix so far fits, so the others decide
abbrev pub invariant-loop-suffix : goal.invariant-loop-suffix
invariant-loop-suffix l =
    first_rule l.known l.name (drop l.suffix-index l.known) ≡ rule_named l.known l.name
