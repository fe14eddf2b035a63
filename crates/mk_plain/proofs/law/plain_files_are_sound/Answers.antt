use Rattle.mk_plain.proofs.PlainLemmas.{plain_files_are_sound}
use Rattle.mk_plain.proofs.law.plain_files_are_sound.Goals as goal

pub returns : goal.returns
returns c = plain_files_are_sound
