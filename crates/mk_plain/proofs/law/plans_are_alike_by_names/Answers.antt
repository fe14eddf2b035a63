use Rattle.mk_plain.proofs.WalkLemmas.{plans_are_alike_by_names}
use Rattle.mk_plain.proofs.law.plans_are_alike_by_names.Goals as goal

pub returns : goal.returns
returns c = plans_are_alike_by_names
