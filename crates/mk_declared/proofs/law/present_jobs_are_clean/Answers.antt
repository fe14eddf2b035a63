use Rattle.mk_declared.proofs.PresentLemmas.{present-clean}
use Rattle.mk_declared.proofs.law.present_jobs_are_clean.Goals as goal

pub returns : goal.returns
returns c = present-clean
