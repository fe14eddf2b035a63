use Rattle.std.proofs.Common.{◌≡◌, ◌+◌, ◌*◌, ◌<◌, ◌≤◌, ◌==◌, ℕ, if◌then◌else◌, length, get_or}
use Rattle.mk_sched.specs.Least.{entry}
use Rattle.mk_sched.proofs.start.entries_of.Given as goal

abbrev pub invariant-loop-node : goal.invariant-loop-node
invariant-loop-node l = record {
  long : length l.entries.items ≡ 2 * length l.counts;
  done : (node : ℕ) → node < l.node → entry l.entries.items (length l.counts + node)
      ≡ (if get_or l.counts node 0 == 0 then node else length l.counts);
  rest : (node : ℕ) → l.node ≤ node → node < length l.counts
      → entry l.entries.items (length l.counts + node) ≡ length l.counts;
}
