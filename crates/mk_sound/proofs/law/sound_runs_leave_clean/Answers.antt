use Rattle.mk_sound.proofs.RunLemmas.{runs_leave_clean}
use Rattle.mk_sound.proofs.law.sound_runs_leave_clean.Goals as goal

pub returns : goal.returns
returns c = runs_leave_clean
