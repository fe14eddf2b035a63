-- The bytes of pieces, as a region grows and is cut.
use Rattle.std.proofs.Common.{◌≡◌, ℕ, ◌+◌, ◌≤◌, List, ◌++◌, length, take, drop, slice_range, sym, ap, ◌∙◌, take-append-drop, arith}
use Rattle.std.proofs.lemmas.Grind.{common_steps}

-- the piece of bytes that were placed holds these bytes
pub slice_range-placed : (old bytes : List ℕ)
    → slice_range (old ++ bytes) (length old) (length old + length bytes) ≡ bytes
slice_range-placed old bytes = grind (arith, common_steps)

-- earlier pieces keep their bytes where more are placed
pub slice_range-append : (old bytes : List ℕ) (start end : ℕ) → end ≤ length old
    → slice_range (old ++ bytes) start end ≡ slice_range old start end
slice_range-append old bytes start end within = grind (arith, common_steps)

-- pieces that end where a region is cut, or before, keep their bytes
pub slice_range-take : (bytes : List ℕ) (start end len : ℕ) → end ≤ len → len ≤ length bytes
    → slice_range (take len bytes) start end ≡ slice_range bytes start end
slice_range-take bytes start end len within inside =
    let left : end ≤ length (take len bytes) = grind (arith, common_steps) in
    sym (slice_range-append (take len bytes) (drop len bytes) start end left)
    ∙ ap (λ all. slice_range all start end) (take-append-drop len bytes)
