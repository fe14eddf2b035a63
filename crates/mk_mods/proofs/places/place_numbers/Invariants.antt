use Rattle.mk_mods.specs.Places.{numbers}
use Rattle.mk_pieces.specs.Pieces.{Shows, Begins}
use Rattle.mk_mods.proofs.places.place_numbers.Given as goal

-- the numbers so far are shown
abbrev pub invariant-loop-before : goal.invariant-loop-before
invariant-loop-before l = record {
  shows : Shows l.region.bytes l.pieces.items (numbers l.before);
  begins : Begins l.initial.region.bytes l.region.bytes;
}
