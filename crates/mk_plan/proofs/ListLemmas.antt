-- Lists behind one of their items.
use Rattle.std.proofs.Common.{◌≡◌, ℕ, zero, suc, ◌+◌, List, [], ◌∷◌, drop, slice_get, Some, refl, arith}
use Rattle.std.proofs.lemmas.Grind.{common_steps}

-- the items from one on are that one and those behind it
pub items-from : {A : Type 0} (items : List A) (i : ℕ) (item : A) → slice_get items i ≡ Some item
    → drop i items ≡ item ∷ drop (i + 1) items
items-from [] i item is = cc
items-from (first ∷ items) zero item is = grind (arith, common_steps)
items-from (first ∷ items) (suc i) item is =
    let next : suc i + 1 ≡ suc (i + 1) = omega arith in rw next (items-from items i item is)
