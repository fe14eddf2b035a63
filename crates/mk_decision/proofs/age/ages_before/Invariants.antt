use Rattle.std.proofs.Common.{◌≡◌, ℕ, ◌<◌, ◌≤◌, length, drop}
use Rattle.mk_decision.specs.Ages as spec
use Rattle.mk_decision.specs.Known.{HasRoom, known}
use Rattle.mk_decision.proofs.age.ages_before.Given as goal

-- the ages by what was seen from one look on
abbrev pub invariant-loop-left : goal.invariant-loop-left
invariant-loop-left l = record {
  within : l.left ≤ length l.seen;
  are : (place : ℕ) → known l.ages place ≡ spec.age l.plan (drop l.left l.seen) place;
  room : (place : ℕ) → place < l.node → HasRoom l.ages place;
}

abbrev pub decreases-loop-left : goal.decreases-loop-left
decreases-loop-left l = l.left
