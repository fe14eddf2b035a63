use Rattle.mk_meta.proofs.JobLemmas.{nothing_to_tell}
use Rattle.mk_meta.proofs.law.nothing_to_tell.Goals as goal

pub returns : goal.returns
returns c = nothing_to_tell
