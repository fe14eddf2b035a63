use Rattle.std.proofs.Common.{◌≡◌, [], drop}
use Rattle.mk_closure.specs.Walks as spec
use Rattle.mk_dirs.specs.Answered.{ByLooks}
use Rattle.mk_closure.proofs.closure.Closure.want_all.Given as goal

-- the names so far were met, and the others are met behind them
abbrev pub invariant-loop-name : goal.invariant-loop-name
invariant-loop-name g l = record {
  idle : g.W.World.runs l.world [];
  met : ByLooks (g.W.World.history l.fn.world) (g.W.World.history l.world) (λ files.
      spec.all_met (spec.entered files l.rules.seeking) l.fn.self l.wanted
      ≡ spec.all_met (spec.entered files l.rules.seeking) l.self (drop l.name-index l.wanted));
  nodes : l.self.nodes ≡ l.fn.self.nodes;
  faults : g.W.World.faults l.world ≡ g.W.World.faults l.fn.world;
}
