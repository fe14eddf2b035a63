use Rattle.std.proofs.Common.{◌≡◌, ◌++◌, drop}
use Rattle.mk_memworld.specs.Base.{base_after}
use Rattle.mk_memworld.proofs.base.base_of.Given as goal

-- the files so far, and the rest
abbrev pub invariant-loop-pair : goal.invariant-loop-pair
invariant-loop-pair l = record {
  base : l.base ++ base_after l.time (drop l.pair-index l.pair-items) ≡ base_after 0 l.pair-items;
  time : l.time ≡ l.pair-index;
}
