use Rattle.mk_uptodate.proofs.AuditedLemmas.{audited_files_are_sound}
use Rattle.mk_uptodate.proofs.law.audited_files_are_sound.Goals as goal

pub returns : goal.returns
returns c = audited_files_are_sound
