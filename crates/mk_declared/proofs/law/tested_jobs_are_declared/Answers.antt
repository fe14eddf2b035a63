use Rattle.mk_declared.proofs.TestLemmas.{tested-declared}
use Rattle.mk_declared.proofs.law.tested_jobs_are_declared.Goals as goal

pub returns : goal.returns
returns c = tested-declared
