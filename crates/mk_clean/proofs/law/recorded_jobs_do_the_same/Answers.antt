use Rattle.mk_clean.proofs.RepeatedLemmas.{exact_records_are_of_steps, recorded_jobs_repeat}
use Rattle.mk_clean.proofs.law.recorded_jobs_do_the_same.Goals as goal

pub returns-clause-same : goal.returns-clause-same
returns-clause-same c = recorded_jobs_repeat

pub returns-clause-exact : goal.returns-clause-exact
returns-clause-exact c = exact_records_are_of_steps
