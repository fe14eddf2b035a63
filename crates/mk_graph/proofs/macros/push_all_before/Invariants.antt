use Rattle.std.proofs.Common.{◌≡◌, ◌++◌, length}
use Rattle.mk_graph.specs.Macros.{macros_of}
use Rattle.mk_graph.specs.Parts.{AreMacros, before}
use Rattle.mk_graph.proofs.macros.push_all_before.Given as goal

-- the commands so far, and those of the macros that are left
abbrev pub invariant-macros : goal.invariant-macros
invariant-macros l = record {
  are : AreMacros (macros_of l.nodes) l.rest;
  so_far : l.commands ++ before (macros_of l.nodes) l.rest
      ≡ l.initial.commands ++ before (macros_of l.nodes) l.taken;
}

abbrev pub decreases-macros : goal.decreases-macros
decreases-macros l = length l.rest
