use Rattle.std.proofs.Common.{◌≡◌, ◌++◌, drop}
use Rattle.mk_graph.specs.StepView.{nodes_on}
use Rattle.mk_graph.proofs.walk.Walk.closed.Given as goal

-- the nodes so far, and those of the steps that are left
abbrev pub invariant-loop-step : goal.invariant-loop-step
invariant-loop-step l =
    l.nodes ++ nodes_on (drop l.step-index l.step-items) ≡ nodes_on l.step-items
