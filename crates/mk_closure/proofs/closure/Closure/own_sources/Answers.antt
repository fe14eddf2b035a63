use Rattle.std.proofs.Common.{length, sym, subst}
use Rattle.mk_closure.proofs.WalkLemmas.{AreBelow-more}
use Rattle.mk_graph.specs.Numbers.{AreBelow}
use Rattle.mk_closure.proofs.closure.Closure.own_sources.Goals as goal

pub returns-then-n-len-clause-below : goal.returns-then-n-len-clause-below
returns-then-n-len-clause-below c =
    let within = rw c.graph-then-n-len.ensures.value at c.sources.ensures.within in
    let below = AreBelow-more (length c.args.self.now.nodes) (length c.args.self.now.parts)
    c.sources.result.now c.graph.ensures.fewer within in
    subst (AreBelow (length c.args.self.now.parts)) (sym c.as_slice.ensures.value) below
