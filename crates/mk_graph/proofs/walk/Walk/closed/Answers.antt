use Rattle.std.proofs.Common.{ap, ◌∙◌}
use Rattle.mk_graph.proofs.StepViewLemmas.{closed_is}
use Rattle.mk_graph.specs.Steps.{State, path_of}
use Rattle.mk_graph.specs.StepView.{nodes_on}
use Rattle.mk_graph.specs.Walks.{from_node, closed}
use Rattle.mk_graph.proofs.walk.Walk.closed.Goals as goal

pub returns : goal.returns
returns c =
    let seen = ap (λ (s : State). closed (path_of s.path) c.args.n) c.self.view_is in
    let part = c.from_node-step-items.ensures
    ∙ ap (λ steps. from_node (nodes_on steps) c.args.n) c.as_slice.ensures.value in
    c.in_ok-push-2.ensures.ok
    ∙ closed_is c.self.inside.path.items c.from_node-step-items.result.now c.loop-step.nodes
    c.args.n c.loop-step.step-index c.loop-step-test.false c.loop-step.invariant part
    ∙ seen
