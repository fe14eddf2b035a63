use Rattle.std.proofs.Common.{◌≡◌, ◌<◌, ℕ, length, get_or}
use Rattle.mk_plan.specs.Plans.{node_at}
use Rattle.mk_sched.proofs.start.counts_of.Given as goal

abbrev pub invariant-loop-n : goal.invariant-loop-n
invariant-loop-n l = record {
  long : length l.counts.items ≡ length l.plan;
  each : (node : ℕ) → node < l.n
      → get_or l.counts.items node 0 ≡ length (node_at l.plan node).before;
}
