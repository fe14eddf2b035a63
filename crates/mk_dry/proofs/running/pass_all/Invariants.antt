use Rattle.std.proofs.Common.{◌≡◌, ◌≤◌, ◌-◌, length}
use Rattle.mk_dry.specs.Parts.{GoingFrom, IsAlone, IsGoneTo, Origin, point}
use Rattle.mk_dry.proofs.running.pass_all.Given as goal

-- so many nodes were gone through
abbrev pub invariant-nodes : goal.invariant-nodes
invariant-nodes g l = record {
  alone : IsAlone (g.W.World.runs l.world) l.kids.tickets l.kids.room;
  within : l.node ≤ length l.course.plan;
  gone : IsGoneTo l.made l.flags l.course l.node;
  goes : (from : Origin)
      → GoingFrom g.W.World.meaning l.made l.flags 0
      (point (g.W.World.history l.fn.world) (g.S.Sink.held l.fn.out) l.fn.course) from
      → GoingFrom g.W.World.meaning l.made l.flags l.node
      (point (g.W.World.history l.world) (g.S.Sink.held l.out) l.course) from;
  world_faults : g.W.World.faults l.world ≡ g.W.World.faults l.fn.world;
  sink_faults : g.S.Sink.faults l.out ≡ g.S.Sink.faults l.fn.out;
}

abbrev pub decreases-nodes : goal.decreases-nodes
decreases-nodes g l = length l.course.plan - l.node
