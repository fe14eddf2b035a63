use Rattle.std.proofs.Common.{inl}
use Rattle.mk_world.proofs.SinkLemmas.{Gains-nothing}
use Rattle.mk_generate.proofs.GenerateLemmas.{OutCause-nothing, OutCause-told, generates-told}
use Rattle.mk_generate.proofs.generating.generate.Goals as goal

pub returns-in-Ok-clause-generates : goal.returns-in-Ok-clause-generates
returns-in-Ok-clause-generates g c =
    let twice = c.in-Ok.twice in
    generates-told c.args.n twice.world twice.first twice.second
    (record { before = g.S.Sink.held c.args.out.now; after = g.S.Sink.held c.tell-end.new.out })
    c.tell-end.result c.in-Ok.ensures.made c.tell-end.ensures.tells

pub returns-in-Err-clause-generates : goal.returns-in-Err-clause-generates
returns-in-Err-clause-generates g c =
    inl (record {
      ends = c.in-Err.ensures.ended;
      printed = Gains-nothing (g.S.Sink.held c.args.out.now);
    })

pub returns-in-Ok-clause-cause : goal.returns-in-Ok-clause-cause
returns-in-Ok-clause-cause g c =
    OutCause-told c.args.n (g.S.Sink.faults c.args.out.now) (g.S.Sink.faults c.tell-end.new.out) c.tell-end.result
    c.tell-end.ensures.cause

pub returns-in-Err-clause-cause : goal.returns-in-Err-clause-cause
returns-in-Err-clause-cause g c =
    OutCause-nothing c.args.n (g.S.Sink.faults c.args.out.now) c.in-Err.end c.in-Err.ensures.ended
