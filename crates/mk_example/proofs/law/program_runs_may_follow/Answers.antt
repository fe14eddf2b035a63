use Rattle.mk_example.proofs.ProgramAgain.{runs-follow}
use Rattle.mk_example.proofs.law.program_runs_may_follow.Goals as goal

pub returns : goal.returns
returns c = runs-follow
