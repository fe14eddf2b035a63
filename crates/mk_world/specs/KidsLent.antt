-- A child that is lent from among the running ones.
use Rattle.std.specs.Prelude.{ℕ, slice_set}
use Rattle.std.specs.Borrow.{Lends, MutBor, Fml, RattleType}
use Rattle.mk_world.specs.Held.{Held}
use Rattle.mk_world.specs.contracts.kids.Kids.{the_row}

-- the children with another value at a place; the others, the tickets and the room stay
abbrev pub with_kid : {K : Type 0} → Held K → ℕ → K → Held K
with_kid kids place kid = record kids { kids = slice_set kids.kids place kid }

-- the child at a place has in the end the last value that was written
abbrev pub LendsKid : (R : RattleType) → MutBor (Held R.Denot) → ℕ → MutBor R.Denot → Fml
LendsKid R kids place kid = Lends (the_row R) R kids kid (with_kid kids.now place)
