use Rattle.std.proofs.Common.{[], ◌∷◌, length}
use Rattle.mk_closure.proofs.MemberLemmas.{AreBelow-append}
use Rattle.mk_closure.proofs.closure.Closure.sources.Goals as goal

pub returns-in-Rule-clause-below : goal.returns-in-Rule-clause-below
returns-in-Rule-clause-below c =
    let made = rw c.in-Rule.is at c.part.ensures.made in
    AreBelow-append (length c.args.self.now.parts) c.own_sources-in-Rule.result.now
    (c.in-Rule.source ∷ []) c.own_sources-in-Rule.ensures.below (made.1, tt)

pub returns-in-Placed-clause-below : goal.returns-in-Placed-clause-below
returns-in-Placed-clause-below c =
    let made = rw c.in-Placed.is at c.part.ensures.made in
    (made, tt)
