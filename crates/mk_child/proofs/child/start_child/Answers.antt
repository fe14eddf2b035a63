use Rattle.mk_world.proofs.SinkLemmas.{OnErr-from}
use Rattle.mk_trace.proofs.CallLemmas.{called-none}
use Rattle.mk_trace.proofs.WorldLemmas.{called-nothing, called-start}
use Rattle.mk_child.proofs.child.start_child.Goals as goal

pub returns-in_err-make_room-clause-refused : goal.returns-in_err-make_room-clause-refused
returns-in_err-make_room-clause-refused g c =
    OnErr-from c.from_residual.result (called-none g.W.World.meaning _)

pub returns-in_err-start-clause-refused : goal.returns-in_err-start-clause-refused
returns-in_err-start-clause-refused g c =
    OnErr-from c.from_residual-in_err-start.result
    (called-nothing g.W.World.meaning _ _ c.in_err-start.ensures.refused)

pub returns-clause-done : goal.returns-clause-done
returns-clause-done g c =
    called-start g.W.World.meaning _ _ c.args.place.node c.args.place.number c.args.ticket
    c.args.owner.0 c.args.cmd.now c.in_ok-start.ensures.done
