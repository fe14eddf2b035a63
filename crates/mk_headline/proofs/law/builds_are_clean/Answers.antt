use Rattle.mk_headline.proofs.EndLemmas.{ends_clean}
use Rattle.mk_headline.proofs.law.builds_are_clean.Goals as goal

pub returns : goal.returns
returns c = ends_clean
