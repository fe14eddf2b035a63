use Rattle.std.proofs.Common.{◌≡◌, ℕ, List}
use Rattle.mk_decision.specs.Makers.{work_of}
use Rattle.mk_query.proofs.AnswerLemmas.{KeptSoFar}
use Rattle.mk_query.proofs.asking.first_not_kept.Given as goal

-- the nodes before this one are kept
abbrev pub invariant-loop-node : goal.invariant-loop-node
invariant-loop-node g l = record {
  kept : KeptSoFar g.W.World.meaning (work_of l.maker) (g.W.World.history l.fn.world)
      (g.W.World.history l.world) l.node l.events;
  faults : g.W.World.faults l.world ≡ g.W.World.faults l.fn.world;
  children : (kids : List ℕ) → g.W.World.runs l.fn.world kids → g.W.World.runs l.world kids;
}
