use Rattle.mk_headline.proofs.ApartLemmas.{stay_true}
use Rattle.mk_headline.proofs.law.builds_stay_true.Goals as goal

pub returns : goal.returns
returns c = stay_true
