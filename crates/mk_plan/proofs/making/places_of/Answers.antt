use Rattle.std.proofs.Common.{◌∙◌, ◌+◌, ◌-◌, get_or, arith, length-set}
use Rattle.mk_plan.proofs.PlanLemmas.{AreBelow-get, places-next}
use Rattle.mk_plan.proofs.making.places_of.Goals as goal

pub index_mut-requires : goal.index_mut-requires
index_mut-requires c =
    let less = AreBelow-get c.args.count c.args.order.now (c.order.left - 1) c.requires.within
    (omega arith) in
    omega (arith, c.order.places.ok.0, c.order.invariant.long, less)

pub order-preserved : goal.order-preserved
order-preserved c =
    let order = c.args.order.now in
    let left = c.order.left - 1 in
    let long = c.order.invariant.long in
    let less = AreBelow-get c.args.count order left c.requires.within (omega arith) in
    record {
      within = omega arith;
      long = length-set c.order.places.items (get_or order left 0) (c.args.first + left) ∙ long;
      are = places-next c.args.first left c.order.left order c.order.places.items (omega arith)
          (omega arith) (omega (arith, long, less)) c.order.invariant.are;
    }
