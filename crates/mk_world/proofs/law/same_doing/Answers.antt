use Rattle.mk_world.proofs.TalkLemmas.{same_doing_law}
use Rattle.mk_world.proofs.law.same_doing.Goals as goal

pub returns : goal.returns
returns g c = same_doing_law g.W.World.meaning
