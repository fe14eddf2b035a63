use Rattle.mk_clean.proofs.TestedLemmas.{no_reason_may_keep}
use Rattle.mk_clean.proofs.law.nodes_without_a_reason_may_be_kept.Goals as goal

pub returns : goal.returns
returns c = no_reason_may_keep
