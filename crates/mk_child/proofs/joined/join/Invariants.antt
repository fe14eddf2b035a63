use Rattle.std.proofs.Common.{◌≡◌, ◌≤◌, ◌++◌, length, take, drop}
use Rattle.mk_world.specs.Sinks.{all_of}
use Rattle.mk_child.proofs.joined.join.Given as goal

-- the pieces so far stand at the beginning of the buffer
abbrev pub invariant-loop-piece : goal.invariant-loop-piece
invariant-loop-piece l = record {
  within : l.end ≤ length l.buffer;
  joined : all_of l.pieces ≡ take l.end l.buffer ++ all_of (drop l.piece-index l.pieces);
}
