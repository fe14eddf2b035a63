-- Which nodes are still to be looked at.
use Rattle.std.specs.BTreeSet.{contains}
use Rattle.std.specs.Ordering.{nat_cmp}
use Rattle.std.specs.Prelude.{ℕ, ◌||◌, Bool}
use Rattle.mk_decision.specs.Ages.{is_one_of}
use Rattle.mk_decision.specs.declared.wanted.Wanted.{Wanted}

abbrev pub has : Wanted → ℕ → Bool
has wanted one = is_one_of wanted.rising.now one || contains nat_cmp wanted.others one
