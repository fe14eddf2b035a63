use Rattle.std.proofs.Common.{◌≡◌, ◌++◌, drop}
use Rattle.mk_plan.proofs.making.add_all.Given as goal

-- the places so far, and the others
abbrev pub invariant-loop-place : goal.invariant-loop-place
invariant-loop-place l = l.fn.places ++ l.more ≡ l.places ++ drop l.place-index l.more
