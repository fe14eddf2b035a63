use Rattle.std.proofs.Common.{◌≡◌, ◌++◌, drop}
use Rattle.mk_graph.specs.Where.{is_target, names_where}
use Rattle.mk_alike.proofs.lists.targets_of.Given as goal

-- the names so far, and those of the nodes that are left, are all
abbrev pub invariant-loop-n : goal.invariant-loop-n
invariant-loop-n l = l.names ++ names_where is_target (drop l.n l.graph) ≡ names_where is_target l.graph
