use Rattle.std.proofs.Common.{◌≡◌, ◌++◌, ◌-◌}
use Rattle.mk_closure.specs.Members.{numbers_from}
use Rattle.mk_plan.proofs.making.add_earlier.Given as goal

-- the places so far, and the others
abbrev pub invariant-loop-place : goal.invariant-loop-place
invariant-loop-place l =
    l.fn.places ++ numbers_from 0 l.count
    ≡ l.places ++ numbers_from l.place (l.count - l.place)
