use Rattle.std.proofs.Common.{◌≡◌, [], ◌∷◌, length, reverse}
use Rattle.mk_closure.specs.Steps as steps
use Rattle.mk_closure.specs.Walks as spec
use Rattle.mk_graph.specs.Numbers.{AreBelow}
use Rattle.mk_dirs.specs.Answered.{ByLooks}
use Rattle.mk_closure.proofs.closure.Closure.walk.Given as goal

-- the walk over the nodes that are left comes to the same as the whole one
abbrev pub invariant-nodes : goal.invariant-nodes
invariant-nodes g l = record {
  idle : g.W.World.runs l.world [];
  below : AreBelow (length l.self.parts) l.todo.items;
  told : ByLooks (g.W.World.history l.fn.world) (g.W.World.history l.world) (λ files.
      steps.Leads (spec.entered files l.rules.seeking) l.fn.self (l.fn.from ∷ []) l.self
      (reverse l.todo.items));
  nodes : l.self.nodes ≡ l.fn.self.nodes;
  faults : g.W.World.faults l.world ≡ g.W.World.faults l.fn.world;
}

abbrev pub decreases-nodes : goal.decreases-nodes
decreases-nodes g l = steps.steps_left l.self (length l.todo.items)
