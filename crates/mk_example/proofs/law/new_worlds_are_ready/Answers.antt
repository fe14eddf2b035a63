use Rattle.mk_example.proofs.CopyLemmas.{new-ready}
use Rattle.mk_example.proofs.law.new_worlds_are_ready.Goals as goal

pub returns : goal.returns
returns c = new-ready
