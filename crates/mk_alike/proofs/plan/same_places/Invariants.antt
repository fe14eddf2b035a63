use Rattle.std.proofs.Common.{◌≡◌, length}
use Rattle.std.specs.Prelude.{◌↔◌}
use Rattle.mk_alike.proofs.plan.same_places.Given as goal

-- what is left is the same exactly where all of them are
abbrev pub invariant-places : goal.invariant-places
invariant-places l = (l.rest ≡ l.behind) ↔ (l.places ≡ l.others)

abbrev pub decreases-places : goal.decreases-places
decreases-places l = length l.rest
