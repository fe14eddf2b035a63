use Rattle.std.proofs.Common.{true, length, sym, ◌∙◌}
use Rattle.mk_graph.proofs.PartFitLemmas.{AreBelow-at}
use Rattle.mk_graph.proofs.UseLemmas.{has_macro-next}
use Rattle.mk_graph.proofs.macros.has_macro.Goals as goal

pub bounds-nodes-n : goal.bounds-nodes-n
bounds-nodes-n c =
    AreBelow-at (length c.args.nodes.now) c.args.sources.now c.loop-n.n-index
    c.loop-n-test.true c.requires

pub returns-then-is_macro : goal.returns-then-is_macro
returns-then-is_macro c =
    sym (has_macro-next c.args.nodes.now c.args.sources.now c.loop-n.n-index
    c.index-nodes-n.result true c.loop-n-test.true c.requires c.index-nodes-n.is
    (sym c.is_macro.ensures ∙ c.if-is_macro.true))
    ∙ c.loop-n.invariant
