use Rattle.mk_example.proofs.AgainLemmas.{edited-ready}
use Rattle.mk_example.proofs.law.edited_worlds_are_ready.Goals as goal

pub returns : goal.returns
returns c = edited-ready
