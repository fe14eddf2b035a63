use Rattle.mk_example.proofs.PlainLemmas.{copied-files-sound}
use Rattle.mk_example.proofs.law.copied_files_are_sound.Goals as goal

pub returns : goal.returns
returns c = copied-files-sound
