use Rattle.std.proofs.Common.{◌≡◌, ℕ, ◌+◌, ◌≤◌, drop, length, get_or}
use Rattle.mk_plan.specs.Plans as spec
use Rattle.mk_plan.proofs.making.places_of.Given as goal

-- the last nodes of the order have their places
abbrev pub invariant-order : goal.invariant-order
invariant-order l = record {
  within : l.left ≤ length l.order;
  long : length l.places.items ≡ l.count;
  are : (n : ℕ) → get_or l.places.items n 0
      ≡ spec.place_from (l.first + l.left) (drop l.left l.order) n;
}

abbrev pub decreases-order : goal.decreases-order
decreases-order l = l.left
