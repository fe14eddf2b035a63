use Rattle.std.proofs.Common.{◌∙◌}
use Rattle.mk_listing.specs.Looks.{looks_for}
use Rattle.mk_listing.proofs.ListLemmas.{noted-next}
use Rattle.mk_listing.proofs.look.add_all_looks.Goals as goal

pub loop-meta-preserved : goal.loop-meta-preserved
loop-meta-preserved c =
    noted-next (looks_for c.args.target.now) c.loop-meta.looks _ c.args.metas.now
    c.meta-item.result c.loop-meta.meta-index c.loop-meta-test.true c.meta-item.is
    c.in_ok-add_looks_for.ensures
    ∙ c.loop-meta.invariant
