use Rattle.std.proofs.Common.{length, reverse}
use Rattle.mk_graph.specs.Steps.{IsFit, Leads}
use Rattle.mk_graph.specs.StepCounts.{steps_left}
use Rattle.mk_graph.specs.Walks.{walked}
use Rattle.mk_graph.proofs.walk.depth_first.Given as goal

-- what is left of the walk comes to the same as all of it
abbrev pub invariant-steps : goal.invariant-steps
invariant-steps l = record {
  fit : IsFit (length l.preds) l.walk;
  leads : Leads l.preds (reverse l.order) l.walk (walked l.preds l.from);
}

abbrev pub decreases-steps : goal.decreases-steps
decreases-steps l = steps_left l.preds l.walk
