use Rattle.std.proofs.Common.{◌≡◌, ◌+◌, ◌<◌, ◌==◌, ℕ, [], if◌then◌else◌, length, get_or, drop}
use Rattle.mk_sched.specs.Counts.{times}
use Rattle.mk_sched.proofs.start.follow.Given as goal

abbrev pub invariant-loop-one : goal.invariant-loop-one
invariant-loop-one l = record {
  long : length l.followers.items ≡ length l.fn.followers.items;
  each : (one node : ℕ) → one < length l.fn.followers.items
      → times node (get_or l.followers.items one [])
      + (if l.n == node then times one (drop l.one-index l.before) else 0)
      ≡ times node (get_or l.fn.followers.items one [])
      + (if l.n == node then times one l.before else 0);
}
