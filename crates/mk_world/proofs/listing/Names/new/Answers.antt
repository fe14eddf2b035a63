use Rattle.mk_world.proofs.ListingLemmas.{in-order}
use Rattle.mk_world.proofs.listing.Names.new.Goals as goal

pub invariant_of-result : goal.invariant_of-result
invariant_of-result c = in-order _ c.new.ensures.ordered
