use Rattle.std.proofs.Common.{◌∙◌, ap}
use Rattle.mk_dry.proofs.EndLemmas.{ended-halted, ended-over}
use Rattle.mk_trace.specs.Builds.{moment}
use Rattle.mk_trace.specs.Ends.{result_of}
use Rattle.mk_dry.proofs.running.run_to_end.Goals as goal

pub returns-in-Ok-clause-ended : goal.returns-in-Ok-clause-ended
returns-in-Ok-clause-ended g c =
    let is = c.ended_by.ensures ∙ ap result_of c.take.ensures.value in
    λ from at.
    rw is (ended-over g.W.World.meaning from.start c.pass_all.new.course
    (g.W.World.history c.pass_all.new.world) from.first (g.S.Sink.held c.pass_all.new.out)
    (c.in-Ok.ensures.goes.goes from at))

pub returns-in-Err-clause-ended : goal.returns-in-Err-clause-ended
returns-in-Err-clause-ended g c = λ from at.
    rw c.from.ensures (ended-halted g.W.World.meaning from.start c.in-Err.halt from.first
    (moment (g.W.World.history c.pass_all.new.world) (g.S.Sink.held c.pass_all.new.out)
    c.pass_all.new.course.events.items) (c.in-Err.ensures.goes.ends from at))
