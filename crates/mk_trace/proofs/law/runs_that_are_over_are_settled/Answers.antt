use Rattle.mk_trace.proofs.RunLemmas.{over_settled}
use Rattle.mk_trace.proofs.law.runs_that_are_over_are_settled.Goals as goal

pub returns : goal.returns
returns c = over_settled
