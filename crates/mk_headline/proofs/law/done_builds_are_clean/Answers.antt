use Rattle.mk_headline.proofs.EndLemmas.{done_clean}
use Rattle.mk_headline.proofs.law.done_builds_are_clean.Goals as goal

pub returns : goal.returns
returns c = done_clean
