use Rattle.std.proofs.Common.{◌≡◌, ◌++◌, drop}
use Rattle.mk_pieces.specs.Pieces.{texts_of}
use Rattle.mk_mods.proofs.piece.texts.Given as goal

-- the texts so far, and those of the pieces that are left
abbrev pub invariant-loop-piece : goal.invariant-loop-piece
invariant-loop-piece l =
    l.texts ++ texts_of l.region.bytes (drop l.piece-index l.pieces)
    ≡ texts_of l.region.bytes l.pieces
