use Rattle.mk_audited.proofs.EditLemmas.{edits_keep_true_starts}
use Rattle.mk_audited.proofs.law.edits_keep_true_starts.Goals as goal

pub returns : goal.returns
returns c = edits_keep_true_starts
