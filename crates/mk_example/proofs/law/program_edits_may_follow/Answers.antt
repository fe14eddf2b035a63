use Rattle.mk_example.proofs.ProgramAgain.{edits-follow}
use Rattle.mk_example.proofs.law.program_edits_may_follow.Goals as goal

pub returns : goal.returns
returns c = edits-follow
