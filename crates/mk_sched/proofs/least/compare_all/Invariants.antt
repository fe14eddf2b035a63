use Rattle.std.proofs.Common.{◌≡◌, ◌+◌, ◌*◌, ◌<◌, ◌≤◌, ℕ, length}
use Rattle.mk_sched.specs.Least.{IsLesser, entry}
use Rattle.mk_sched.proofs.least.compare_all.Given as goal

-- each entry from a place on is the lesser of two
abbrev pub invariant-loop-place : goal.invariant-loop-place
invariant-loop-place l = record {
  long : length l.entries.items ≡ 2 * l.count;
  within : l.place ≤ l.count;
  each : (above : ℕ) → 0 < above → l.place ≤ above → above < l.count → IsLesser l.entries.items above;
  nodes : (node : ℕ) → node < l.count
      → entry l.entries.items (l.count + node) ≡ entry l.fn.entries.items (l.count + node);
}

abbrev pub decreases-loop-place : goal.decreases-loop-place
decreases-loop-place l = l.place
