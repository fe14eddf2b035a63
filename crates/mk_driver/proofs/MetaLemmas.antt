-- Writes of make that did not come about.
use Rattle.std.proofs.Common.{ℕ, List, [], Option, inl, refl}
use Rattle.mk_world.specs.Talks.{Meaning}
use Rattle.mk_world.specs.declared.history.History.{History}
use Rattle.mk_trace.specs.Calls.{Called, PartItem}
use Rattle.mk_trace.specs.Items.{Change}
use Rattle.mk_trace.proofs.ItemLemmas.{told-none}

-- where no call was made, no part of anything stands
pub part-none : (meaning : Meaning) (told : Option History) (node : ℕ)
    (cut : List ℕ → ℕ → Change) (bytes : List ℕ) → Called meaning told told (PartItem node cut bytes)
part-none meaning told node cut bytes = record {
  early = [];
  own = [];
  late = [];
  early_steps = tt;
  late_steps = tt;
  is_own = inl refl;
  told = told-none meaning told;
}
