use Rattle.mk_declared.proofs.RecordedLemmas.{recorded_jobs_are_declared}
use Rattle.mk_declared.proofs.law.recorded_jobs_are_declared.Goals as goal

pub returns : goal.returns
returns c = recorded_jobs_are_declared
