use Rattle.std.proofs.Common.{◌≡◌, ◌++◌, drop}
use Rattle.mk_plan.specs.Tasks.{names_at}
use Rattle.mk_decision.specs.Tests as spec
use Rattle.mk_decision.proofs.test.newer_names.Given as goal

-- the names so far, and those of the other sources
abbrev pub invariant-loop-at : goal.invariant-loop-at
invariant-loop-at l =
    spec.newer_names l.target (names_at l.plan l.places) l.ages
    ≡ l.newer
    ++ spec.newer_names l.target (names_at l.plan (drop l.at l.places)) (drop l.at l.ages)
