use Rattle.std.proofs.Common.{◌≡◌, is_some, drop}
use Rattle.std.specs.List.{list_any}
use Rattle.mk_graph.specs.Macros.{macros_of, macro_at}
use Rattle.mk_graph.proofs.macros.has_macro.Given as goal

-- no source so far is a macro, so the others decide
abbrev pub invariant-loop-n : goal.invariant-loop-n
invariant-loop-n l =
    list_any (λ n. is_some (macro_at (macros_of l.nodes) n)) (drop l.n-index l.sources)
    ≡ list_any (λ n. is_some (macro_at (macros_of l.nodes) n)) l.sources
