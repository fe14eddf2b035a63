use Rattle.std.proofs.Common.{◌≡◌, [], length}
use Rattle.mk_decision.specs.Looks.{LooksAt}
use Rattle.mk_decision.specs.Makers.{work_on}
use Rattle.mk_explain.specs.Walks.{AreWalked}
use Rattle.mk_explain.proofs.walk.explain_all.Given as goal

-- the nodes before this one had their turns
abbrev pub invariant-loop-node : goal.invariant-loop-node
invariant-loop-node g l = record {
  idle : g.W.World.runs l.world [];
  walked : AreWalked
      (LooksAt g.W.World.meaning (g.W.World.history l.fn.world) (g.W.World.history l.world))
      (work_on l.fn.plan l.made l.flags) (work_on l.plan l.made l.flags) l.node l.reasons;
  long : length l.plan ≡ length l.fn.plan;
  faults : g.W.World.faults l.world ≡ g.W.World.faults l.fn.world;
}
