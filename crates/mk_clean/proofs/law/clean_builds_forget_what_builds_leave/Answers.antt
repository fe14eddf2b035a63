use Rattle.mk_clean.proofs.CleanLemmas.{builds_forget}
use Rattle.mk_clean.proofs.law.clean_builds_forget_what_builds_leave.Goals as goal

pub returns : goal.returns
returns c = builds_forget
