use Rattle.mk_audited.proofs.RunLemmas.{audited_builds_leave_clean}
use Rattle.mk_audited.proofs.law.audited_builds_leave_clean.Goals as goal

pub returns : goal.returns
returns c = audited_builds_leave_clean
