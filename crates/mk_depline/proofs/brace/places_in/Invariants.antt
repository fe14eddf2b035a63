use Rattle.std.proofs.Common.{◌≤◌, drop, length}
use Rattle.mk_depline.specs.Braces.{ArePlaces}
use Rattle.mk_depline.proofs.brace.places_in.Given as goal

-- the places in the bytes that are read
abbrev pub invariant-bytes : goal.invariant-bytes
invariant-bytes l = record {
  places : ArePlaces (drop l.at l.word) l.places;
  within : l.at ≤ length l.word;
}

abbrev pub decreases-bytes : goal.decreases-bytes
decreases-bytes l = l.at
