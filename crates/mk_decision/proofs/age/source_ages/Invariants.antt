use Rattle.std.proofs.Common.{◌≡◌, ℕ, ◌++◌, drop, map}
use Rattle.mk_plan.specs.Plans.{node_at}
use Rattle.mk_decision.specs.Ages as spec
use Rattle.mk_decision.specs.Known.{known}
use Rattle.mk_decision.proofs.age.source_ages.Given as goal

-- the ages so far, and those of the other sources
abbrev pub invariant-loop-place : goal.invariant-loop-place
invariant-loop-place l = record {
  before : (place : ℕ) → known l.before place ≡ spec.age l.plan l.seen place;
  items : l.place-items ≡ (node_at l.plan l.node).sources;
  are : spec.source_ages l.plan l.node l.seen
      ≡ l.ages ++ map (spec.age l.plan l.seen) (drop l.place-index l.place-items);
}
