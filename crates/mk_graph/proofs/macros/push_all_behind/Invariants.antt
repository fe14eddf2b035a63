use Rattle.std.proofs.Common.{◌≡◌, ◌++◌, drop}
use Rattle.mk_graph.specs.Macros.{macros_of}
use Rattle.mk_graph.specs.Parts.{behind}
use Rattle.mk_graph.proofs.macros.push_all_behind.Given as goal

-- the commands so far, and those of the macros that are left
abbrev pub invariant-loop-n : goal.invariant-loop-n
invariant-loop-n l =
    l.commands ++ behind (macros_of l.nodes) (drop l.n-index l.taken)
    ≡ l.initial.commands ++ behind (macros_of l.nodes) l.taken
