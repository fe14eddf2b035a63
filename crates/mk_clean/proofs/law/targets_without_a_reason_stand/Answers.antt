use Rattle.mk_clean.proofs.KeptLemmas.{kept_stands}
use Rattle.mk_clean.proofs.law.targets_without_a_reason_stand.Goals as goal

pub returns : goal.returns
returns c = kept_stands
