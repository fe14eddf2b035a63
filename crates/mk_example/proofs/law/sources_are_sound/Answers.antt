use Rattle.mk_example.proofs.ProgramLemmas.{sound}
use Rattle.mk_example.proofs.law.sources_are_sound.Goals as goal

pub returns : goal.returns
returns c = sound
