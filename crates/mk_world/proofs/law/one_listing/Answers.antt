use Rattle.mk_world.proofs.ListingLemmas.{one-listing}
use Rattle.mk_world.proofs.law.one_listing.Goals as goal

pub returns : goal.returns
returns c = one-listing
