use Rattle.std.proofs.Common.{◌≡◌, take}
use Rattle.mk_audit.proofs.facts.copy_places.Given as goal

-- the places so far
abbrev pub invariant-loop-place : goal.invariant-loop-place
invariant-loop-place l = l.copy ≡ take l.place-index l.places
