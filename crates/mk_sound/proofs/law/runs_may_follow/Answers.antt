use Rattle.mk_sound.proofs.FilesLemmas.{runs_may_follow}
use Rattle.mk_sound.proofs.law.runs_may_follow.Goals as goal

pub returns : goal.returns
returns c = runs_may_follow
