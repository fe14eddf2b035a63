use Rattle.mk_headline.proofs.FullLemmas.{full_turns}
use Rattle.mk_headline.proofs.law.builds_are_turns.Goals as goal

pub returns : goal.returns
returns c = full_turns
