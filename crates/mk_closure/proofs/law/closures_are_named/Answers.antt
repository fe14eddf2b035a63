use Rattle.mk_closure.proofs.NamedLemmas.{closures_named}
use Rattle.mk_closure.proofs.law.closures_are_named.Goals as goal

pub returns : goal.returns
returns c = closures_named
