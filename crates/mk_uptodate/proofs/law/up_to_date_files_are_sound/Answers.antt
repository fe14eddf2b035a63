use Rattle.mk_uptodate.proofs.FileLemmas.{up_to_date_files_are_sound}
use Rattle.mk_uptodate.proofs.law.up_to_date_files_are_sound.Goals as goal

pub returns : goal.returns
returns c = up_to_date_files_are_sound
