use Rattle.std.proofs.Common.{◌≡◌, ◌+◌, ℕ, length, get_or, drop}
use Rattle.mk_sched.specs.Counts.{times}
use Rattle.mk_sched.specs.Least.{AreEntered}
use Rattle.mk_sched.proofs.counts.count_down.Given as goal

-- each count is less by how often the node stood so far
abbrev pub invariant-loop-node : goal.invariant-loop-node
invariant-loop-node l = record {
  long : length l.counts.items ≡ length l.fn.counts.items;
  less : (node : ℕ) → get_or l.counts.items node 0 + times node l.followers
      ≡ get_or l.fn.counts.items node 0 + times node (drop l.node-index l.followers);
  entered : AreEntered l.nodes l.counts.items l.entries.items;
}
