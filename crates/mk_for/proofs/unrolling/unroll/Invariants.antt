use Rattle.std.proofs.Common.{◌≡◌, map}
use Rattle.std.specs.List.{range_with_len}
use Rattle.mk_for.specs.Turns.{body_of}
use Rattle.mk_for.proofs.unrolling.unroll.Given as goal

-- the bodies of the turns so far
abbrev pub invariant-loop-k : goal.invariant-loop-k
invariant-loop-k l = l.bodies ≡ map (body_of l.body l.names l.words) (range_with_len 0 l.k)
