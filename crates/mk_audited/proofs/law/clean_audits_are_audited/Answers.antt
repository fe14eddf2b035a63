use Rattle.mk_audited.proofs.AuditLemmas.{clean_audits_are_audited}
use Rattle.mk_audited.proofs.law.clean_audits_are_audited.Goals as goal

pub returns : goal.returns
returns c = clean_audits_are_audited
