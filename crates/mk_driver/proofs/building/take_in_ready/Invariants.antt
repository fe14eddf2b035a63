use Rattle.std.proofs.Common.{◌≡◌}
use Rattle.mk_trace.specs.Builds.{Moment}
use Rattle.mk_driver.specs.Jobs.{lines_left}
use Rattle.mk_decision.specs.Makers.{work_of}
use Rattle.mk_driver.specs.Progress.{Fits, GoingAt, undecided}
use Rattle.mk_driver.proofs.building.take_in_ready.Given as goal

-- a build in which no node was decided since
abbrev pub invariant-waits : goal.invariant-waits
invariant-waits g l = record {
  exact : g.W.World.runs l.world l.kids.tickets;
  fits : Fits (work_of l.maker) l.course l.kids.tickets l.kids.room 0;
  room : l.kids.room ≡ l.fn.kids.room;
  nodes : undecided l.course.sched.nodes ≡ undecided l.fn.course.sched.nodes;
  goes : (first : Moment)
      → GoingAt g.W.World.meaning (work_of l.maker) (g.W.World.history l.fn.world) l.fn.course first
      (g.S.Sink.held l.fn.out)
      → GoingAt g.W.World.meaning (work_of l.maker) (g.W.World.history l.world) l.course first
      (g.S.Sink.held l.out);
  world_faults : g.W.World.faults l.world ≡ g.W.World.faults l.fn.world;
  sink_faults : g.S.Sink.faults l.out ≡ g.S.Sink.faults l.fn.out;
}

abbrev pub decreases-waits : goal.decreases-waits
decreases-waits g l = lines_left l.course.jobs.items
