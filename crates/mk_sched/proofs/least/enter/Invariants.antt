use Rattle.std.proofs.Common.{◌≡◌, ◌≢◌, ◌+◌, ◌*◌, ◌<◌, ℕ, length}
use Rattle.mk_sched.specs.Least.{IsLesser, entry}
use Rattle.mk_sched.proofs.least.enter.Given as goal

-- each entry is the lesser of two, but perhaps the one above the entry that was written last
abbrev pub invariant-loop-place : goal.invariant-loop-place
invariant-loop-place l = record {
  long : length l.entries.items ≡ 2 * l.count;
  some : 0 < l.place;
  within : l.place < 2 * l.count;
  each : (above : ℕ) → 0 < above → above < l.count → 2 * above ≢ l.place
      → 2 * above + 1 ≢ l.place → IsLesser l.entries.items above;
  last : l.least ≡ entry l.entries.items l.place;
  here : entry l.entries.items (l.count + l.node) ≡ l.value;
  others : (other : ℕ) → other < l.count → other ≢ l.node
      → entry l.entries.items (l.count + other) ≡ entry l.fn.entries.items (l.count + other);
}

abbrev pub decreases-loop-place : goal.decreases-loop-place
decreases-loop-place l = l.place
