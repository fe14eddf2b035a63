use Rattle.std.proofs.Common.{subst}
use Rattle.mk_closure.proofs.MemberLemmas.{all_preds-length}
use Rattle.mk_graph.specs.Numbers.{AreBelow}
use Rattle.mk_plan.proofs.PlanLawLemmas.{nodes_of-sourced}
use Rattle.mk_plan.proofs.PlanLemmas.{nodes_of-ordered}
use Rattle.mk_plan.proofs.making.plan_of.Goals as goal

pub nodes_of-requires-clause-within : goal.nodes_of-requires-clause-within
nodes_of-requires-clause-within c =
    rw c.as_slice.ensures.value
    (subst (λ k. AreBelow k c.in_ok-order.order) (all_preds-length c.args.closure.now)
    c.in_ok-order.ensures.order.within)

pub of-requires-clause-ordered : goal.of-requires-clause-ordered
of-requires-clause-ordered c =
    rw (c.in_ok-nodes.ensures, c.as_slice.ensures.value)
    (nodes_of-ordered c.args.closure.now c.args.query c.in_ok-order.order
    c.in_ok-order.ensures.order)

pub of-requires-clause-sourced : goal.of-requires-clause-sourced
of-requires-clause-sourced c =
    rw (c.in_ok-nodes.ensures, c.as_slice.ensures.value)
    (nodes_of-sourced c.args.closure.now c.args.query c.in_ok-order.order)
