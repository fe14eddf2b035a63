use Rattle.mk_example.proofs.ProgramAgain.{programs-right-again}
use Rattle.mk_example.proofs.law.programs_are_right_again.Goals as goal

pub returns : goal.returns
returns c = programs-right-again
