use Rattle.mk_world.proofs.LawLemmas.{runs_stay_lawful}
use Rattle.mk_world.proofs.law.runs_stay_lawful.Goals as goal

pub returns : goal.returns
returns g c = runs_stay_lawful g.W.World.meaning
