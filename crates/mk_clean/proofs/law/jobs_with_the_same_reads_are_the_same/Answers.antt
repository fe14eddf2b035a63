use Rattle.mk_clean.proofs.JobLemmas.{job_agree}
use Rattle.mk_clean.proofs.law.jobs_with_the_same_reads_are_the_same.Goals as goal

pub returns : goal.returns
returns c = job_agree
