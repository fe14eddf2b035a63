use Rattle.std.proofs.Common.{◌≡◌}
use Rattle.mk_trace.specs.Builds.{Moment}
use Rattle.mk_decision.specs.Makers.{work_of}
use Rattle.mk_driver.specs.Progress.{Fits, GoingAt, undecided}
use Rattle.mk_driver.proofs.building.make_all.Given as goal

-- a build that has come so far
abbrev pub invariant-nodes : goal.invariant-nodes
invariant-nodes g l = record {
  exact : g.W.World.runs l.world l.kids.tickets;
  fits : Fits (work_of l.maker) l.course l.kids.tickets l.kids.room 0;
  goes : (first : Moment)
      → GoingAt g.W.World.meaning (work_of l.maker) (g.W.World.history l.fn.world) l.fn.course first
      (g.S.Sink.held l.fn.out)
      → GoingAt g.W.World.meaning (work_of l.maker) (g.W.World.history l.world) l.course first
      (g.S.Sink.held l.out);
  world_faults : g.W.World.faults l.world ≡ g.W.World.faults l.fn.world;
  sink_faults : g.S.Sink.faults l.out ≡ g.S.Sink.faults l.fn.out;
}

abbrev pub decreases-nodes : goal.decreases-nodes
decreases-nodes g l = undecided l.course.sched.nodes
