use Rattle.std.proofs.Common.{◌≡◌, ℕ, List, drop}
use Rattle.mk_decision.specs.Dates.{AreDated}
use Rattle.mk_decision.specs.Newest.{raised_all}
use Rattle.mk_decision.proofs.paths.look_at_all.Given as goal

-- all paths but those that are left were looked at
abbrev pub invariant-loop-path : goal.invariant-loop-path
invariant-loop-path g l = record {
  children : (kids : List ℕ) → g.W.World.runs l.fn.world kids → g.W.World.runs l.world kids;
  seen : AreDated g.W.World.meaning (g.W.World.history l.fn.world) (g.W.World.history l.world) l.paths
      (drop l.path-index l.paths) l.whens;
  newest : l.newest.0 ≡ raised_all l.fn.newest.0 l.whens;
  faults : g.W.World.faults l.world ≡ g.W.World.faults l.fn.world;
}
