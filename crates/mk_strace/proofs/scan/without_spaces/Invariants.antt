use Rattle.std.proofs.Common.{◌≡◌, length}
use Rattle.mk_strace.specs.Scan.{without_spaces}
use Rattle.mk_strace.proofs.scan.without_spaces.Given as goal

abbrev pub invariant-spaces : goal.invariant-spaces
invariant-spaces l = without_spaces l.rest ≡ without_spaces l.text

abbrev pub decreases-spaces : goal.decreases-spaces
decreases-spaces l = length l.rest
