use Rattle.std.proofs.Common.{◌≡◌, length, drop, nat_le}
use Rattle.mk_mods.specs.Limits.{fits}
use Rattle.mk_mods.specs.State.{behind}
use Rattle.mk_pieces.specs.Pieces.{texts_of}
use Rattle.mk_mods.specs.Pieces.{seen}
use Rattle.mk_mods.proofs.val.has_fitting_text.Given as goal

-- the whole text fits where what is left fits into the room
abbrev pub invariant-loop-piece : goal.invariant-loop-piece
invariant-loop-piece l =
    nat_le
    (length (behind l.val.separator l.left (texts_of l.region.bytes (drop l.piece-index l.rest))))
    l.room
    ≡ fits (seen l.region.bytes l.val)
