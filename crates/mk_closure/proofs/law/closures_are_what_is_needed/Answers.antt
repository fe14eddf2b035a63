use Rattle.mk_closure.proofs.NeededLemmas.{closures_needed}
use Rattle.mk_closure.proofs.law.closures_are_what_is_needed.Goals as goal

pub returns : goal.returns
returns c = closures_needed
