use Rattle.std.proofs.Common.{◌≡◌, length}
use Rattle.mk_meta.specs.Lawful.{are_sorted}
use Rattle.mk_meta.proofs.reading.are_sorted.Given as goal

abbrev pub invariant-pairs : goal.invariant-pairs
invariant-pairs l = are_sorted l.rest ≡ are_sorted l.exports

abbrev pub decreases-pairs : goal.decreases-pairs
decreases-pairs l = length l.rest
