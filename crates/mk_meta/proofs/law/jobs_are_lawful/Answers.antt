use Rattle.mk_meta.proofs.JobLemmas.{jobs_are_lawful}
use Rattle.mk_meta.proofs.law.jobs_are_lawful.Goals as goal

pub returns : goal.returns
returns c = jobs_are_lawful
