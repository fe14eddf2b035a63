use Rattle.std.proofs.Common.{◌≡◌, ◌++◌, length, take}
use Rattle.mk_pieces.specs.Limits.{total}
use Rattle.mk_pieces.specs.Pieces.{texts_of, Shows}
use Rattle.mk_mods.proofs.val.lined_up.Given as goal

-- the pieces so far show the texts so far, which are all the bytes
abbrev pub invariant-loop-piece : goal.invariant-loop-piece
invariant-loop-piece l = record {
  shows : Shows (take l.len l.region.bytes ++ l.bytes) l.moved.items
      (texts_of l.region.bytes (take l.piece-index l.pieces));
  small : length l.bytes ≡ total (texts_of l.region.bytes (take l.piece-index l.pieces));
}
