use Rattle.std.proofs.Common.{◌≡◌, ◌++◌, drop}
use Rattle.mk_mods.specs.State.{behind, text_of}
use Rattle.mk_pieces.specs.Pieces.{texts_of}
use Rattle.mk_mods.specs.Pieces.{seen}
use Rattle.mk_mods.proofs.val.text.Given as goal

-- the text so far, and what stands behind its last item
abbrev pub invariant-loop-piece : goal.invariant-loop-piece
invariant-loop-piece l =
    l.out ++ behind l.val.separator l.left (texts_of l.region.bytes (drop l.piece-index l.rest))
    ≡ text_of (seen l.region.bytes l.val)
