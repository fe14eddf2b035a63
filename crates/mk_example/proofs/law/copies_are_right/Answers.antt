use Rattle.mk_example.proofs.CopyLemmas.{copies-right}
use Rattle.mk_example.proofs.law.copies_are_right.Goals as goal

pub returns : goal.returns
returns c = copies-right
