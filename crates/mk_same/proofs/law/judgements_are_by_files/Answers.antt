use Rattle.mk_same.proofs.ExplainedLemmas.{judgements_are_by_files}
use Rattle.mk_same.proofs.law.judgements_are_by_files.Goals as goal

pub returns : goal.returns
returns c = judgements_are_by_files
