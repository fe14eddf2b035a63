use Rattle.mk_veil.proofs.VeilLemmas.{nothing-left}
use Rattle.mk_veil.proofs.veil.VeilWorld.abandon.Goals as goal

pub returns-clause-done : goal.returns-clause-done
returns-clause-done g c =
    let veil = c.args.self.now in
    nothing-left g.W.World.meaning veil.hidden.now veil.looked.items veil.silent (g.W.World.history veil.world.now)
