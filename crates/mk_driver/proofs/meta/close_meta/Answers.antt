use Rattle.std.proofs.Common.{inl, inr}
use Rattle.mk_decision.proofs.NewestLemmas.{raised-on}
use Rattle.mk_decision.proofs.PieceLemmas.{on_err, on_ok}
use Rattle.mk_trace.proofs.WorldLemmas.{called-look, called-nothing}
use Rattle.mk_driver.proofs.meta.close_meta.Goals as goal

pub returns-in-Err-clause-refused : goal.returns-in-Err-clause-refused
returns-in-Err-clause-refused g c =
    inl (called-nothing g.W.World.meaning _ _ c.in-Err.ensures.refused)

pub returns-in-Ok-clause-written : goal.returns-in-Ok-clause-written
returns-in-Ok-clause-written g c =
    on_ok c.write_whole.result (λ written. record {
      between = _;
      asked = record {
        in_meta = c.requires.in_meta;
        when = c.in-Ok.when;
        call = called-look g.W.World.meaning _ _ c.args.job.node _
            (rw c.name.ensures at c.in-Ok.ensures.done);
      };
      countable = c.write_whole.ensures.countable;
      few = c.write_whole.ensures.few;
      exports = c.write_whole.ensures.exports;
      newest = _;
      told = raised-on _ _ c.in-Ok.when c.raise.ensures;
      writes = written;
    }) c.write_whole.ensures.written

pub returns-in-Ok-clause-refused : goal.returns-in-Ok-clause-refused
returns-in-Ok-clause-refused g c =
    on_err c.write_whole.result (λ part. inr (record {
      between = _;
      asked = record {
        in_meta = c.requires.in_meta;
        when = c.in-Ok.when;
        call = called-look g.W.World.meaning _ _ c.args.job.node _
            (rw c.name.ensures at c.in-Ok.ensures.done);
      };
      countable = c.write_whole.ensures.countable;
      few = c.write_whole.ensures.few;
      exports = c.write_whole.ensures.exports;
      call = part;
    })) c.write_whole.ensures.refused
