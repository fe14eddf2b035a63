use Rattle.mk_breaches.proofs.PathLemmas.{noted-in}
use Rattle.mk_breaches.proofs.path.Paths.add.Goals as goal

pub returns : goal.returns
returns c = noted-in _ _ c.args.path _ c.self.view_is c.in_ok-insert.ensures.keys
