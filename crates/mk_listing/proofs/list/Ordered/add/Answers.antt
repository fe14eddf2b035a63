use Rattle.mk_listing.proofs.ListLemmas.{put-in}
use Rattle.mk_listing.proofs.list.Ordered.add.Goals as goal

pub returns : goal.returns
returns c =
    put-in _ _ _ _ _ c.self.view_is c.in_ok-text.ensures.items c.in_ok-insert.ensures.keys
