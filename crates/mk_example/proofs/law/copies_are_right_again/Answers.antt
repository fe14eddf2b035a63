use Rattle.mk_example.proofs.ChainLemmas.{copies-right-again}
use Rattle.mk_example.proofs.law.copies_are_right_again.Goals as goal

pub returns : goal.returns
returns c = copies-right-again
