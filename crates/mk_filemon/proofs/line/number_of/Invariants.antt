use Rattle.std.proofs.Common.{◌≡◌, length}
use Rattle.mk_filemon.specs.Log.{number_of}
use Rattle.mk_filemon.proofs.line.number_of.Given as goal

abbrev pub invariant-zeros : goal.invariant-zeros
invariant-zeros l = number_of l.rest ≡ number_of l.digits

abbrev pub decreases-zeros : goal.decreases-zeros
decreases-zeros l = length l.rest
