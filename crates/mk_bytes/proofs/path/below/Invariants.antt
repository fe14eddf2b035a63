use Rattle.std.proofs.Common.{◌≡◌, drop}
use Rattle.mk_bytes.specs.Paths as spec
use Rattle.mk_bytes.proofs.path.below.Given as goal

-- the names so far are those of the directory, so what follows is decided by the rest of both
abbrev pub invariant-loop-name : goal.invariant-loop-name
invariant-loop-name l =
    spec.below (spec.seen (drop l.name-index l.dir)) (spec.seen l.rest)
    ≡ spec.below (spec.seen l.dir) (spec.seen l.place)
