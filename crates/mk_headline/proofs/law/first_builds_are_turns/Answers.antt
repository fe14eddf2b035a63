use Rattle.mk_headline.proofs.FirstLemmas.{first_turns}
use Rattle.mk_headline.proofs.law.first_builds_are_turns.Goals as goal

pub returns : goal.returns
returns c = first_turns
