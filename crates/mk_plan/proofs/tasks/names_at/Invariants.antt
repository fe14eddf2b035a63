use Rattle.std.proofs.Common.{◌≡◌, ◌++◌, drop}
use Rattle.mk_plan.specs.Tasks as spec
use Rattle.mk_plan.proofs.tasks.names_at.Given as goal

-- the names so far, and those of the other places
abbrev pub invariant-loop-place : goal.invariant-loop-place
invariant-loop-place l =
    spec.names_at l.plan l.places ≡ l.names ++ spec.names_at l.plan (drop l.place-index l.places)
