-- What the keys of a set stand for.
use Rattle.std.specs.Prelude.{ℕ, List, map}
use Rattle.std.specs.declared.alloc.Global.{Global}
use Rattle.std.specs.declared.vec.Vec.{Vec}

abbrev pub texts_of : List (Vec ℕ Global) → List (List ℕ)
texts_of keys = map (λ key. key.items) keys
