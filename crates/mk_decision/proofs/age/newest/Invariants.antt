use Rattle.std.proofs.Common.{◌≡◌, drop}
use Rattle.mk_decision.specs.Ages as spec
use Rattle.mk_decision.specs.Known.{known}
use Rattle.mk_oodate.specs.declared.reason.Age.TheVariants.{Old}
use Rattle.mk_decision.proofs.age.newest.Given as goal

-- the newest of the nodes so far, and of those that are left
abbrev pub invariant-loop-place : goal.invariant-loop-place
invariant-loop-place l =
    spec.newest (known l.ages) Old l.places
    ≡ spec.newest (known l.ages) l.newest (drop l.place-index l.places)
