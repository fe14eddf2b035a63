use Rattle.mk_sound.proofs.RunLemmas.{runs_stay_true}
use Rattle.mk_sound.proofs.law.sound_runs_stay_true.Goals as goal

pub returns : goal.returns
returns c = runs_stay_true
