use Rattle.mk_realworld.proofs.KidLemmas.{TakenOut-at}
use Rattle.mk_realworld.proofs.world.RealWorldWorld.wait_any.Goals as goal

pub returns-in-Ok-clause-taken : goal.returns-in-Ok-clause-taken
returns-in-Ok-clause-taken g c =
    let same = c.in-Ok.ensures.same in
    TakenOut-at c.in-Ok.over.place c.take-kid.result.0.0 c.args.kids.now.tickets
    c.take-kid.new.self.tickets c.in-Ok.ensures.place
    (rw same at c.take-kid.ensures.ticket) (rw same at c.take-kid.ensures.tickets)
