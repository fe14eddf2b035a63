-- An item of a list that is lent to be changed.
use Rattle.std.specs.Prelude.{ℕ, List, slice_set}
use Rattle.std.specs.Borrow.{Lends, MutBor, Fml, RattleType}
use Rattle.mk_bytes.specs.contracts.items.Items.{the_row}

-- the item at a place has in the end the last value that was written; the others stay
abbrev pub LendsItem : (R : RattleType) → MutBor (List R.Denot) → ℕ → MutBor R.Denot → Fml
LendsItem R list place item = Lends (the_row R) R list item (slice_set list.now place)
