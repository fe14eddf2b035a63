use Rattle.std.proofs.Common.{◌∙◌, ap}
use Rattle.mk_trace.specs.Ends.{result_of}
use Rattle.mk_decision.specs.Makers.{work_of}
use Rattle.mk_driver.proofs.BuildLemmas.{ended-halted, ended-over}
use Rattle.mk_driver.proofs.building.make_to_end.Goals as goal

pub returns-in-Ok-clause-ended : goal.returns-in-Ok-clause-ended
returns-in-Ok-clause-ended g c =
    let is = c.ended_by.ensures ∙ ap result_of c.take.ensures.value in
    λ first at.
    rw is (ended-over g.W.World.meaning (work_of c.args.maker.now) c.make_all.new.course
    (g.W.World.history c.make_all.new.world) first (g.S.Sink.held c.make_all.new.out)
    c.in-Ok.ensures.fits.rules_are c.in-Ok.ensures.over (c.in-Ok.ensures.goes first at))

pub returns-in-Err-clause-ended : goal.returns-in-Err-clause-ended
returns-in-Err-clause-ended g c = λ first at.
    rw c.from.ensures (ended-halted g.W.World.meaning (work_of c.args.maker.now) c.in-Err.halt
    (g.W.World.history c.make_all.new.world) c.make_all.new.course.events.items first
    (g.S.Sink.held c.make_all.new.out) (c.in-Err.ensures.halted first at))
