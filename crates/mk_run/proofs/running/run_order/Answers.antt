use Rattle.mk_modes.proofs.MeaningLemmas.{SinkCause-closed}
use Rattle.mk_run.proofs.TrueRunLemmas.{true-run}
use Rattle.mk_run.proofs.running.run_order.Goals as goal

pub returns-clause-sink_fault : goal.returns-clause-sink_fault
returns-clause-sink_fault g c =
    SinkCause-closed _ _ _ _ _ c.follow-went.result.end c.close.result.end c.follow-went.ensures.sink_cause
    c.close.ensures.cause

pub returns-clause-ran : goal.returns-clause-ran
returns-clause-ran g c =
    true-run (record {
      went = c.follow-went.result;
      err_at = g.S.Sink.held c.follow-went.new.err;
      followed = c.follow-went.ensures.goes;
      closed = c.close.ensures.closed;
      plan = c.close.ensures.plan;
      events = c.close.ensures.events;
    })
