use Rattle.mk_trace.proofs.BegunLemmas.{cut_runs_begun}
use Rattle.mk_trace.proofs.law.cut_runs_are_begun_runs.Goals as goal

pub returns : goal.returns
returns c = cut_runs_begun
