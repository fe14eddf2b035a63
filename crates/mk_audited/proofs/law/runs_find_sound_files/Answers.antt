use Rattle.mk_audited.proofs.RunLemmas.{runs_find_sound_files}
use Rattle.mk_audited.proofs.law.runs_find_sound_files.Goals as goal

pub returns : goal.returns
returns c = runs_find_sound_files
