use Rattle.std.proofs.Common.{◌≡◌, length}
use Rattle.std.specs.Prelude.{◌↔◌}
use Rattle.mk_bytes.proofs.same.same_pairs.Given as goal

-- what is left is the same exactly where all of them are
abbrev pub invariant-pairs : goal.invariant-pairs
invariant-pairs l = (l.rest ≡ l.behind) ↔ (l.pairs ≡ l.others)

abbrev pub decreases-pairs : goal.decreases-pairs
decreases-pairs l = length l.rest
