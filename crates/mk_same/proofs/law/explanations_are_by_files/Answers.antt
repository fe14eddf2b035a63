use Rattle.mk_same.proofs.ExplainedLemmas.{explanations_are_by_files}
use Rattle.mk_same.proofs.law.explanations_are_by_files.Goals as goal

pub returns : goal.returns
returns c = explanations_are_by_files
