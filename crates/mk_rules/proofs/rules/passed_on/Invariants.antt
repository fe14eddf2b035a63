use Rattle.std.proofs.Common.{◌-◌, length}
use Rattle.mk_rules.specs.Rules.{HavePassed}
use Rattle.mk_rules.proofs.rules.passed_on.Given as goal

-- the targets so far are no main ones
abbrev pub invariant-targets : goal.invariant-targets
invariant-targets l = HavePassed l.graph l.targets l.at

abbrev pub decreases-targets : goal.decreases-targets
decreases-targets l = length l.targets - l.at
