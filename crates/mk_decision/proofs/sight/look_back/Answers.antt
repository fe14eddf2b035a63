use Rattle.std.proofs.Common.{arith}
use Rattle.std.proofs.lemmas.Grind.{common_steps}
use Rattle.mk_decision.specs.Wants.{has}
use Rattle.mk_decision.proofs.SightLemmas.{walk-comes, walk-ends}
use Rattle.mk_decision.proofs.sight.look_back.Goals as goal

pub nodes-preserved : goal.nodes-preserved
nodes-preserved g c =
    let l = c.nodes in
    let plan = c.args.plan.now in
    let place = c.in-Some.place in
    let taken = c.in-Some.ensures.taken in
    let before = has l.wanted in
    let now = has c.take_last.new.self in
    let within = l.invariant.below place taken.counts in
    let more = c.in_ok-visit.ensures.more in
    record {
      children = λ kids runs. c.in_ok-visit.ensures.children kids (l.invariant.children kids runs);
      below = λ one holds. let earlier = c.in_ok-visit.ensures.below one holds in omega arith;
      walk = λ first are. let on = l.invariant.walk first are in (
        place,
        c.in_ok-visit.ensures.walk c.args.node first
            (walk-comes plan c.args.node first place on.0 before now l.seen taken on.1),
      );
      looked = c.in_ok-visit.ensures.looked (g.W.World.history c.args.world.now)
          l.invariant.looked;
      faults = grind (arith, common_steps);
    }

pub returns-clause-walk : goal.returns-clause-walk
returns-clause-walk g c = λ first are.
    let on = c.nodes.invariant.walk first are in
    walk-ends c.args.plan.now c.args.node first on.0 (has c.nodes.wanted) c.nodes.seen
    c.in_default.ensures.none on.1
