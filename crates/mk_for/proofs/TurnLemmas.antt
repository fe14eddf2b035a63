-- The bodies of turns, one after the other.
use Rattle.std.proofs.Common.{◌≡◌, ◌∙◌, ap, ℕ, ◌<◌, Some, map, slice_get, arith}
use Rattle.std.specs.List.{range_with_len}
use Rattle.std.proofs.lemmas.List.FromFn.{length-map-range_with_len, get_or-map-range_with_len}
use Rattle.std.proofs.lemmas.Option.{slice_get-get_or}

-- a list made from a function of the place has its value at each place
pub slice_get-made : {X : Type 0} (make : ℕ → X) (count k : ℕ) → k < count
    → slice_get (map make (range_with_len 0 count)) k ≡ Some (make k)
slice_get-made make count k under =
    let len = length-map-range_with_len make 0 count in
    slice_get-get_or (map make (range_with_len 0 count)) k (make k) (omega (arith, len))
    ∙ ap Some (get_or-map-range_with_len make 0 count k k (make k) under (omega arith))
