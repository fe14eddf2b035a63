use Rattle.std.proofs.Common.{Err}
use Rattle.mk_makefile.specs.declared.fault.ReadFault.TheVariants.{World}
use Rattle.mk_modes.specs.Ends.{of_read}
use Rattle.mk_modes.specs.declared.report.End.TheVariants.{WorldFault}
use Rattle.mk_modes.proofs.MeaningLemmas.{Goes-ended, EndCause-behind, SinkCause-behind}
use Rattle.mk_modes.proofs.following.follow.Goals as goal

pub returns-in-Ok-clause-world_cause : goal.returns-in-Ok-clause-world_cause
returns-in-Ok-clause-world_cause g c =
    EndCause-behind World WorldFault c.by_mode-went.result.end _ _ _ c.in-Ok.made
    c.in-Ok.ensures.world_cause c.by_mode-went.ensures.world_cause

pub returns-in-Ok-clause-sink_cause : goal.returns-in-Ok-clause-sink_cause
returns-in-Ok-clause-sink_cause g c =
    SinkCause-behind _ _ _ _ c.in-Ok.made c.by_mode-went.result.end c.in-Ok.ensures.sink_cause
    c.by_mode-went.ensures.sink_cause

pub returns-in-Err-clause-goes : goal.returns-in-Err-clause-goes
returns-in-Err-clause-goes g c =
    let h = g.W.World.history c.read.new.world in
    let a = g.S.Sink.held c.args.out.now in
    rw (c.unbuilt.ensures, c.from.ensures) (record {
      read_at = h;
      read = Err c.in-Err.fault;
      reads = c.in-Err.ensures.reading;
      goes = Goes-ended g.W.World.meaning (of_read c.in-Err.fault) h a;
    })
