use Rattle.std.proofs.Common.{◌≡◌, ◌≤◌, ◌++◌, drop, length, reverse}
use Rattle.mk_closure.proofs.visit.push_turned.Given as goal

-- the last nodes were pushed, the last of them first
abbrev pub invariant-nodes : goal.invariant-nodes
invariant-nodes l = record {
  within : l.left ≤ length l.nodes;
  pushed : l.todo.items ≡ l.fn.todo.items ++ reverse (drop l.left l.nodes);
}

abbrev pub decreases-nodes : goal.decreases-nodes
decreases-nodes l = l.left
