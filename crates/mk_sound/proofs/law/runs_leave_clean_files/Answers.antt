use Rattle.mk_sound.proofs.FilesLemmas.{runs_leave_files}
use Rattle.mk_sound.proofs.law.runs_leave_clean_files.Goals as goal

pub returns : goal.returns
returns c = runs_leave_files
