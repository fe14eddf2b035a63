use Rattle.std.proofs.Common.{◌∙◌}
use Rattle.mk_listing.specs.Graphs.{edges_of}
use Rattle.mk_listing.proofs.ListLemmas.{noted-next}
use Rattle.mk_listing.proofs.edge.add_all_edges.Goals as goal

pub loop-meta-preserved : goal.loop-meta-preserved
loop-meta-preserved c =
    noted-next edges_of c.loop-meta.edges _ c.args.metas.now c.meta-item.result
    c.loop-meta.meta-index c.loop-meta-test.true c.meta-item.is c.in_ok-add_edges_of.ensures
    ∙ c.loop-meta.invariant
