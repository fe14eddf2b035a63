use Rattle.mk_sound.proofs.WalkLemmas.{have_clean_tasks}
use Rattle.mk_sound.proofs.law.builds_have_clean_tasks.Goals as goal

pub returns : goal.returns
returns c = have_clean_tasks
