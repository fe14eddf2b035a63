use Rattle.mk_world.proofs.SinkLemmas.{OnErr-from}
use Rattle.mk_trace.proofs.CallLemmas.{called-none}
use Rattle.mk_trace.proofs.WorldLemmas.{called-nothing, called-end}
use Rattle.mk_child.proofs.child.wait_child.Goals as goal

pub returns-in_err-make_room-clause-refused : goal.returns-in_err-make_room-clause-refused
returns-in_err-make_room-clause-refused g c =
    OnErr-from c.from_residual.result (called-none g.W.World.meaning _)

pub returns-in_err-ended-clause-refused : goal.returns-in_err-ended-clause-refused
returns-in_err-ended-clause-refused g c =
    OnErr-from c.from_residual-in_err-ended.result
    (called-nothing g.W.World.meaning _ _ c.in_err-ended.ensures.refused)

pub returns-clause-done : goal.returns-clause-done
returns-clause-done g c = λ node number.
    called-end g.W.World.meaning _ _ node number c.in_ok-ended.ended c.in_ok-ended.ensures.done
