use Rattle.mk_example.proofs.ProgramLemmas.{new-programs}
use Rattle.mk_example.proofs.law.new_programs_may_run.Goals as goal

pub returns : goal.returns
returns c = new-programs
