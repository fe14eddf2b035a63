use Rattle.std.proofs.Common.{◌≡◌, ℕ, ◌+◌, ◌-◌, ◌<◌, List, length, true}
use Rattle.mk_decision.specs.Wants.{has}
use Rattle.mk_decision.specs.Sights.{AreWanted, Looked, OnWalk}
use Rattle.mk_decision.proofs.sight.look_back.Given as goal

-- what was seen so far, and what counts of the nodes before it
abbrev pub invariant-nodes : goal.invariant-nodes
invariant-nodes g l = record {
  children : (kids : List ℕ) → g.W.World.runs l.fn.world kids → g.W.World.runs l.world kids;
  below : (one : ℕ) → has l.wanted one ≡ true → one + length l.seen < l.node;
  walk : (first : List ℕ) → AreWanted l.node (has l.fn.wanted) first
      → (bound : ℕ) × OnWalk l.plan l.node first bound (has l.wanted) l.seen;
  looked : Looked g.W.World.meaning (g.W.World.history l.fn.world) (g.W.World.history l.world) l.plan
      l.seen;
  faults : g.W.World.faults l.world ≡ g.W.World.faults l.fn.world;
}

abbrev pub decreases-nodes : goal.decreases-nodes
decreases-nodes g l = l.node - length l.seen
