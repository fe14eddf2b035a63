use Rattle.std.proofs.Common.{◌≡◌, length}
use Rattle.mk_filemon.specs.Escapes.{part_at}
use Rattle.mk_filemon.proofs.EscapeLemmas.{with_bytes}
use Rattle.mk_filemon.proofs.escape.read_part.Given as goal

-- what was read so far, and what the rest is
abbrev pub invariant-units : goal.invariant-units
invariant-units l = with_bytes l.part (part_at l.quoted l.rest) ≡ part_at l.quoted l.text

abbrev pub decreases-units : goal.decreases-units
decreases-units l = length l.rest
