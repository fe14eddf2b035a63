use Rattle.mk_closure.proofs.PartLemmas.{IsGrown-name}
use Rattle.mk_closure.proofs.closure.Closure.number.Goals as goal

pub returns-clause-grown : goal.returns-clause-grown
returns-clause-grown c =
    rw c.in_ok-add.ensures.state (IsGrown-name c.args.self.now c.args.name.now)
