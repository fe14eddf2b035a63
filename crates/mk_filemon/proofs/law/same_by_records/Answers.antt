use Rattle.mk_filemon.proofs.StepLemmas.{same_by_records}
use Rattle.mk_filemon.proofs.law.same_by_records.Goals as goal

pub returns : goal.returns
returns g c = same_by_records g.W.World.meaning c.same_doing.ensures
