use Rattle.mk_world.proofs.SinkLemmas.{OnErr-from}
use Rattle.mk_trace.proofs.WorldLemmas.{called-whole, called-whole_part}
use Rattle.mk_driver.proofs.MetaLemmas.{part-none}
use Rattle.mk_driver.proofs.meta.write_whole.Goals as goal

pub returns-in_err-text-clause-refused : goal.returns-in_err-text-clause-refused
returns-in_err-text-clause-refused g c =
    OnErr-from c.from_residual.result (part-none g.W.World.meaning _ c.args.job.node _ _)

pub returns-in_err-path-clause-refused : goal.returns-in_err-path-clause-refused
returns-in_err-path-clause-refused g c =
    OnErr-from c.from_residual-in_err-path.result (part-none g.W.World.meaning _ c.args.job.node _ _)

pub returns-in_err-time-clause-refused : goal.returns-in_err-time-clause-refused
returns-in_err-time-clause-refused g c =
    OnErr-from c.from_residual-in_err-time.result
    (called-whole_part g.W.World.meaning _ _ c.args.job.node _ _
    (rw (
      c.bytes.ensures.value,
      c.bytes-2.ensures.value,
      c.in_ok-path.ensures,
      c.in_ok-text.ensures,
      c.name.ensures,
    ) at c.in_err-time.ensures.refused))

pub returns-clause-written : goal.returns-clause-written
returns-clause-written g c = record {
  time = c.in_ok-time.time.0;
  later = c.in_ok-time.ensures.later;
  call = called-whole g.W.World.meaning _ _ c.args.job.node _ _ c.in_ok-time.time.0
      (rw (
        c.bytes.ensures.value,
        c.bytes-2.ensures.value,
        c.in_ok-path.ensures,
        c.in_ok-text.ensures,
        c.name.ensures,
      ) at c.in_ok-time.ensures.done);
}
