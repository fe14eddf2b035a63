use Rattle.mk_sound.proofs.FilesLemmas.{sound_files_make_sound_runs}
use Rattle.mk_sound.proofs.law.sound_files_make_sound_runs.Goals as goal

pub returns : goal.returns
returns c = sound_files_make_sound_runs
