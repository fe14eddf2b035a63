use Rattle.std.proofs.Common.{◌≡◌, ◌≤◌, ◌-◌, length}
use Rattle.mk_dry.specs.Parts.{AreLinesOf, IsAlone, StandsIn}
use Rattle.mk_dry.specs.Progress.{IsBehind, Scene}
use Rattle.mk_trace.specs.Builds.{moment}
use Rattle.mk_dry.proofs.line.show_lines.Given as goal

-- so many lines were shown, and none of them has failed
abbrev pub invariant-lines : goal.invariant-lines
invariant-lines g l = record {
  alone : IsAlone (g.W.World.runs l.world) l.kids.tickets l.kids.room;
  within : l.done ≤ length l.task.lines;
  failure : l.failure ≡ l.fn.failure;
  goes : (scene : Scene) → AreLinesOf l.made l.node l.task.lines l.fn.failure scene
      → StandsIn g.W.World.meaning
      (moment (g.W.World.history l.fn.world) (g.S.Sink.held l.fn.out) l.fn.events.items) (IsBehind scene 0) scene
      → StandsIn g.W.World.meaning
      (moment (g.W.World.history l.world) (g.S.Sink.held l.out) l.events.items) (IsBehind scene l.done) scene;
  world_faults : g.W.World.faults l.world ≡ g.W.World.faults l.fn.world;
  sink_faults : g.S.Sink.faults l.out ≡ g.S.Sink.faults l.fn.out;
}

abbrev pub decreases-lines : goal.decreases-lines
decreases-lines g l = length l.task.lines - l.done
