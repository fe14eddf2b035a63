use Rattle.std.proofs.Common.{◌≡◌, ◌+◌, List, [], ◌∷◌, true, length, length-append, subst, sym, ap, arith}
use Rattle.mk_plan.specs.Plans.{are_ordered, are_sourced, is_behind}
use Rattle.mk_plan.specs.declared.plan.PlanNode.{PlanNode}
use Rattle.mk_calls.proofs.RunLemmas.{ordered_push, sourced_push}
use Rattle.mk_calls.proofs.order.plan_of.Goals as goal

pub loop-n-preserved : goal.loop-n-preserved
loop-n-preserved c =
    let nodes = c.loop-n.nodes in
    let node = c.in_ok-node_of.field-0 in
    let is = c.in_ok-push.ensures.ok in
    let place : c.loop-n.n ≡ 0 + length nodes = omega (arith, c.loop-n.invariant.long) in
    let behind : is_behind (0 + length nodes) node.before ≡ true =
    subst (λ k. is_behind k node.before ≡ true) place c.in_ok-node_of.ensures.behind in
    record {
      long = omega (arith, ap length is, length-append nodes (node ∷ []), c.loop-n.invariant.long);
      ordered = subst (λ (ns : List PlanNode). are_ordered 0 ns ≡ true) (sym is)
          (ordered_push nodes 0 node c.loop-n.invariant.ordered behind);
      sourced = subst (λ (ns : List PlanNode). are_sourced ns ≡ true) (sym is)
          (sourced_push nodes node c.loop-n.invariant.sourced c.in_ok-node_of.ensures.sources);
    }
