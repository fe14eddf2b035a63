-- What the entries of a map stand for.
use Rattle.std.specs.Prelude.{ℕ, List, map}
use Rattle.std.specs.declared.alloc.Global.{Global}
use Rattle.std.specs.declared.vec.Vec.{Vec}
use Rattle.mk_bytes.specs.declared.pair.Pair.{Pair}

abbrev pub pairs_of : List (Vec ℕ Global × List ℕ) → List Pair
pairs_of entries = map (λ entry. record { name = entry.0.items; value = entry.1 }) entries
