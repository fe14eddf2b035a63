use Rattle.mk_example.proofs.ProgramLemmas.{programs-right}
use Rattle.mk_example.proofs.law.programs_are_right.Goals as goal

pub returns : goal.returns
returns c = programs-right
