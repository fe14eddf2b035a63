use Rattle.std.proofs.Common.{◌≡◌, length}
use Rattle.mk_bytes.specs.Paths as spec
use Rattle.mk_bytes.proofs.path.walk.Given as goal

-- the rest of the path leads from here to where the whole path leads
abbrev pub invariant-names : goal.invariant-names
invariant-names l =
    spec.walk (spec.seen l.dir.items) (spec.names_on l.rest)
    ≡ spec.walk (spec.seen l.initial.dir.items) (spec.names_on l.path)

abbrev pub decreases-names : goal.decreases-names
decreases-names l = length l.rest
