use Rattle.std.proofs.Common.{◌≡◌, drop, max}
use Rattle.mk_pieces.specs.Pieces.{furthest}
use Rattle.mk_mods.specs.Pieces.{end_of}
use Rattle.mk_mods.proofs.val.Val.end.Given as goal

-- the greatest end so far, and those of the pieces that are left
abbrev pub invariant-loop-piece : goal.invariant-loop-piece
invariant-loop-piece l =
    max l.end (furthest (drop l.piece-index l.self.pieces.items)) ≡ end_of l.self
