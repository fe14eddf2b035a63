use Rattle.std.proofs.Common.{◌≡◌, ◌∙◌, ◌+◌, [], ◌∷◌, ◌++◌, drop, length, map, get_or, ap, sym, append_assoc, arith}
use Rattle.std.proofs.lemmas.Grind.{common_steps}
use Rattle.std.proofs.lemmas.List.{append-nil, drop_all}
use Rattle.mk_plan.proofs.PlanLemmas.{AreBelow-get, plan_nodes-same}
use Rattle.mk_plan.specs.Plans as spec
use Rattle.mk_plan.proofs.making.add_nodes.Goals as goal

pub plan_node-requires-clause-within : goal.plan_node-requires-clause-within
plan_node-requires-clause-within c =
    AreBelow-get (length c.args.closure.now.parts) c.args.order.now c.loop-n.n-index
    c.requires.within (omega arith)

pub loop-n-preserved : goal.loop-n-preserved
loop-n-preserved c =
    let s = c.args.closure.now in
    let i = c.loop-n.n-index in
    let order = c.args.order.now in
    let n = get_or order i 0 in
    let node = spec.plan_node s (λ m. get_or c.in_ok-places.places.items m 0) c.len-first.result in
    let are : drop i order ≡ n ∷ drop (i + 1) order = grind (arith, common_steps) in
    rw (c.in_ok-push.ensures.ok, c.in_ok-plan_node.ensures, c.deref.ensures.value)
    (c.loop-n.invariant
    ∙ (ap (λ l. c.loop-n.nodes ++ map node l) are
    ∙ sym (append_assoc c.loop-n.nodes (node n ∷ []) (map node (drop (i + 1) order)))))

pub returns : goal.returns
returns c =
    let s = c.args.closure.now in
    let i = c.loop-n.n-index in
    let order = c.args.order.now in
    let old = c.args.nodes.now in
    let first = c.len-first.result in
    let node = spec.plan_node s (λ m. get_or c.in_ok-places.places.items m 0) first in
    let none = drop_all i order (omega arith) in
    let all = c.loop-n.invariant
    ∙ (ap (λ l. c.loop-n.nodes ++ map node l) none ∙ append-nil c.loop-n.nodes) in
    sym all
    ∙ (ap (λ l. old ++ l) (plan_nodes-same s (λ m. get_or c.in_ok-places.places.items m 0)
    (spec.place_from first order) first c.in_ok-places.ensures order)
    ∙ ap (λ k. old ++ spec.inner_nodes s order k) c.len-first.ensures.value)
