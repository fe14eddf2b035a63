use Rattle.mk_headline.proofs.ApartLemmas.{keep_apart}
use Rattle.mk_headline.proofs.law.builds_keep_apart.Goals as goal

pub returns : goal.returns
returns c = keep_apart
