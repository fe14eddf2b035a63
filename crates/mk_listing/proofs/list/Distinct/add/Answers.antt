use Rattle.mk_listing.proofs.ListLemmas.{noted-in}
use Rattle.mk_listing.proofs.list.Distinct.add.Goals as goal

pub returns : goal.returns
returns c =
    noted-in _ _ _ _ _ c.self.view_is c.in_ok-text.ensures.items c.in_ok-insert.ensures.keys
