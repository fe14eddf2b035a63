use Rattle.mk_audited.proofs.RunLemmas.{runs_find_nothing}
use Rattle.mk_audited.proofs.law.runs_find_nothing.Goals as goal

pub returns : goal.returns
returns c = runs_find_nothing
