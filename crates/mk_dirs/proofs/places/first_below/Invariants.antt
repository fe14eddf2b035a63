use Rattle.std.proofs.Common.{◌≡◌, [], drop}
use Rattle.mk_dirs.specs.Places.{first_below}
use Rattle.mk_dirs.specs.Answered.{ByLooks}
use Rattle.mk_dirs.proofs.places.first_below.Given as goal

-- the file is in none of the directories so far, so the others decide
abbrev pub invariant-loop-dir : goal.invariant-loop-dir
invariant-loop-dir g l = record {
  idle : g.W.World.runs l.world [];
  told : ByLooks (g.W.World.history l.fn.world) (g.W.World.history l.world) (λ files.
      first_below files l.cwd l.dirs l.name ≡ first_below files l.cwd (drop l.dir-index l.dirs) l.name);
  faults : g.W.World.faults l.world ≡ g.W.World.faults l.fn.world;
}
