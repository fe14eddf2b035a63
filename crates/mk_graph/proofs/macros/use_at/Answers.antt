use Rattle.std.proofs.Common.{refl, sym, ◌∙◌, length}
use Rattle.mk_graph.proofs.PartFitLemmas.{own_below, HaveBelow-at, HaveBelow-set}
use Rattle.mk_graph.proofs.UseLemmas.{has-none}
use Rattle.mk_graph.proofs.macros.use_at.Goals as goal

pub has_macro-requires : goal.has_macro-requires
has_macro-requires c =
    own_below c.args.nodes.now.items c.as_slice.result.now c.as_slice-2.result.now c.args.place
    c.index-own.result.now c.requires.place c.index-own.ensures c.requires.nodes
    c.as_slice.ensures.value c.as_slice-2.ensures.value

pub returns-then-not-has_macro-clause-ok : goal.returns-then-not-has_macro-clause-ok
returns-then-not-has_macro-clause-ok c =
    has-none c.args.nodes.now.items c.as_slice.result.now c.as_slice-2.result.now c.args.place
    c.index-own.result.now c.has_macro.result c.requires.place c.index-own.ensures
    (sym c.takes_macros.ensures ∙ c.if-not-takes_macros.false) c.as_slice.ensures.value
    c.as_slice-2.ensures.value c.has_macro.ensures c.if-not-has_macro.true

pub take_macros-requires-clause-sources : goal.take_macros-requires-clause-sources
take_macros-requires-clause-sources c =
    own_below c.args.nodes.now.items c.as_slice-3.result.now c.index-own.result.now.sources
    c.args.place c.index-own.result.now c.requires.place c.index-own.ensures c.requires.nodes
    c.as_slice-3.ensures.value refl

pub returns-clause-nodes : goal.returns-clause-nodes
returns-clause-nodes c =
    let all = c.args.nodes.now.items in
    let below = HaveBelow-at (length all) all c.args.place c.index_mut-links.result.now
    c.requires.place c.index_mut-links.ensures.value c.requires.nodes in
    HaveBelow-set (length all) all c.args.place _ c.requires.nodes
    (rw c.as_slice-3.ensures.value at c.in_ok-sources.ensures.below) below.1
