use Rattle.std.proofs.Common.{◌≡◌, ◌++◌, drop}
use Rattle.mk_graph.specs.Where.{has_commands, names_where}
use Rattle.mk_alike.proofs.lists.with_commands.Given as goal

-- the names so far, and those of the nodes that are left, are all
abbrev pub invariant-loop-n : goal.invariant-loop-n
invariant-loop-n l = l.names ++ names_where has_commands (drop l.n l.graph) ≡ names_where has_commands l.graph
