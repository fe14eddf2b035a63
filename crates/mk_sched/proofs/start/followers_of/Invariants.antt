use Rattle.std.proofs.Common.{◌≡◌, ◌<◌, ◌≤◌, ℕ, [], length, get_or}
use Rattle.mk_sched.specs.Counts.{times}
use Rattle.mk_sched.specs.Schedule.{predecessors}
use Rattle.mk_sched.proofs.start.followers_of.Given as goal

-- the nodes so far are followers of their predecessors, and no others are
abbrev pub invariant-loop-n : goal.invariant-loop-n
invariant-loop-n l = record {
  long : length l.followers.items ≡ length l.plan;
  done : (one node : ℕ) → one < length l.plan → node < l.n
      → times node (get_or l.followers.items one [])
      ≡ times one (get_or (predecessors l.plan) node []);
  rest : (one node : ℕ) → one < length l.plan → l.n ≤ node
      → times node (get_or l.followers.items one []) ≡ 0;
}
