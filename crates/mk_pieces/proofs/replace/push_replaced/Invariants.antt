use Rattle.std.proofs.Common.{◌≡◌, length}
use Rattle.mk_pieces.specs.Limits.{pushed}
use Rattle.mk_pieces.specs.Substitution.{replaced}
use Rattle.mk_pieces.proofs.replace.push_replaced.Given as goal

-- what becomes of the rest comes behind the bytes so far
abbrev pub invariant-places : goal.invariant-places
invariant-places l =
    pushed l.out.items (replaced (length l.rest) l.from l.to l.rest)
    ≡ pushed l.initial.out.items (replaced (length l.word) l.from l.to l.word)

abbrev pub decreases-places : goal.decreases-places
decreases-places l = length l.rest
