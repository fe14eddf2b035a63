use Rattle.std.proofs.Common.{take}
use Rattle.mk_pieces.specs.Pieces.{Shows, Begins}
use Rattle.mk_mods.proofs.piece.place_all.Given as goal

-- the pieces so far show the texts so far, and the old bytes are the beginning
abbrev pub invariant-loop-text : goal.invariant-loop-text
invariant-loop-text l = record {
  shows : Shows l.region.bytes l.pieces.items (take l.text-index l.texts);
  begins : Begins l.initial.region.bytes l.region.bytes;
}
