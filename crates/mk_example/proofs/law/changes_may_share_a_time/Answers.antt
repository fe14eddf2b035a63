use Rattle.mk_example.proofs.ChainLemmas.{one-time-lawful}
use Rattle.mk_example.proofs.law.changes_may_share_a_time.Goals as goal

pub returns : goal.returns
returns c = one-time-lawful
