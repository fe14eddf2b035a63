use Rattle.mk_world.proofs.ListingLemmas.{among-more, in-order}
use Rattle.mk_world.proofs.listing.Names.add.Goals as goal

pub returns-clause-ok : goal.returns-clause-ok
returns-clause-ok c =
    among-more _ _ _ _ _ c.self.view_is c.in_ok-name.ensures.items c.in_ok-insert.ensures.keys

pub invariant_of-self-2 : goal.invariant_of-self-2
invariant_of-self-2 c = in-order _ c.insert.ensures.ordered
