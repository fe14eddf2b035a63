use Rattle.std.proofs.Common.{refl}
use Rattle.mk_world.proofs.SinkLemmas.{OnErr-from}
use Rattle.mk_trace.proofs.WorldLemmas.{called-head, called-head_part}
use Rattle.mk_driver.proofs.MetaLemmas.{part-none}
use Rattle.mk_driver.proofs.meta.open_head.Goals as goal

pub returns-in_err-records-clause-refused : goal.returns-in_err-records-clause-refused
returns-in_err-records-clause-refused g c =
    OnErr-from c.from_residual.result (part-none g.W.World.meaning _ c.args.node _ _)

pub returns-in_err-path-clause-refused : goal.returns-in_err-path-clause-refused
returns-in_err-path-clause-refused g c =
    OnErr-from c.from_residual-in_err-path.result (part-none g.W.World.meaning _ c.args.node _ _)

pub returns-in_err-first-clause-refused : goal.returns-in_err-first-clause-refused
returns-in_err-first-clause-refused g c =
    OnErr-from c.from_residual-in_err-first.result (part-none g.W.World.meaning _ c.args.node _ _)

pub returns-in_err-time-clause-refused : goal.returns-in_err-time-clause-refused
returns-in_err-time-clause-refused g c =
    OnErr-from c.from_residual-in_err-time.result
    (called-head_part g.W.World.meaning _ _ c.args.node _ _
    (rw (
      c.bytes.ensures.value,
      c.bytes-2.ensures.value,
      c.in_ok-path.ensures,
      c.in_ok-first.ensures,
      c.name-target.ensures,
    ) at c.in_err-time.ensures.refused))

pub returns-clause-written : goal.returns-clause-written
returns-clause-written g c = record {
  time = c.in_ok-time.time.0;
  later = c.in_ok-time.ensures.later;
  is = rw (c.new-output.ensures, c.in_ok-records.ensures.empty) refl;
  call = called-head g.W.World.meaning _ _ c.args.node _ _ c.in_ok-time.time.0
      (rw (
        c.bytes.ensures.value,
        c.bytes-2.ensures.value,
        c.in_ok-path.ensures,
        c.in_ok-first.ensures,
        c.name-target.ensures,
      ) at c.in_ok-time.ensures.done);
}
