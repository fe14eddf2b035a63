use Rattle.std.proofs.Common.{◌≡◌, []}
use Rattle.mk_audit.specs.Walks.{AreWalked}
use Rattle.mk_decision.specs.Looks.{LooksAt}
use Rattle.mk_decision.specs.Makers.{work_of}
use Rattle.mk_audit.proofs.walk.audit_all.Given as goal

-- the nodes before this one had their turns
abbrev pub invariant-loop-node : goal.invariant-loop-node
invariant-loop-node g l = record {
  idle : g.W.World.runs l.world [];
  walked : AreWalked
      (LooksAt g.W.World.meaning (g.W.World.history l.fn.world) (g.W.World.history l.world))
      (work_of l.maker) l.node l.nodes;
  faults : g.W.World.faults l.world ≡ g.W.World.faults l.fn.world;
}
