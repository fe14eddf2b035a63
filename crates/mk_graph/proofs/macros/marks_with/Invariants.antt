use Rattle.std.proofs.Common.{◌≡◌, drop}
use Rattle.mk_graph.specs.Macros.{macros_of, all_marks}
use Rattle.mk_graph.proofs.macros.marks_with.Given as goal

-- the attributes so far, with those of the macros that are left
abbrev pub invariant-loop-n : goal.invariant-loop-n
invariant-loop-n l =
    all_marks (macros_of l.nodes) l.marks (drop l.n-index l.taken)
    ≡ all_marks (macros_of l.nodes) l.fn.own l.taken
