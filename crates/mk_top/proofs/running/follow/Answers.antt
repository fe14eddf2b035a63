use Rattle.mk_top.proofs.CauseLemmas.{SinkCause-generated, WorldCause-generated}
use Rattle.mk_top.proofs.running.follow.Goals as goal

pub returns-in-Some-clause-world_fault : goal.returns-in-Some-clause-world_fault
returns-in-Some-clause-world_fault g c =
    let line = rw c.unbuilt.ensures at c.close.ensures.cause in
    rw c.in-Some.is
    (WorldCause-generated c.in-Some.n _ (g.W.World.faults c.args.world.now) _ _ c.generate-end.result
    c.close.result.end c.generate-end.ensures.generates line)

pub returns-in-Some-clause-sink_fault : goal.returns-in-Some-clause-sink_fault
returns-in-Some-clause-sink_fault g c =
    let line = rw c.unbuilt.ensures at c.close.ensures.cause in
    rw c.in-Some.is
    (SinkCause-generated c.in-Some.n _ _ _ _ c.generate-end.result c.close.result.end c.generate-end.ensures.cause
    line)
