use Rattle.mk_decision.specs.Wants.{has}
use Rattle.mk_world.proofs.SinkLemmas.{OnErr-from}
use Rattle.mk_plan.specs.Plans.{node_at}
use Rattle.mk_decision.specs.Ages.{counted, is_one_of}
use Rattle.mk_decision.specs.Sights.{looks_of}
use Rattle.mk_decision.proofs.SightLemmas.{looked-more, some-refused, some-looked, still-below, walk-looks}
use Rattle.mk_decision.proofs.sight.visit.Goals as goal

pub returns-in_err-when-clause-some : goal.returns-in_err-when-clause-some
returns-in_err-when-clause-some g c =
    OnErr-from c.from_residual.result (λ start looked.
    some-refused g.W.World.meaning start _ _ (looks_of c.args.plan.now c.args.seen.now) looked
    c.in_err-when.ensures.refused)

pub returns-in_err-want_counted-clause-some : goal.returns-in_err-want_counted-clause-some
returns-in_err-want_counted-clause-some g c =
    OnErr-from c.from_residual-in_err-want_counted.result (λ start looked.
    some-looked g.W.World.meaning start _ _ c.args.plan.now c.args.seen.now
    (record { place = c.args.place; when = c.in_ok-when.when }) looked
    c.in_ok-when.ensures.seen)

pub returns-in_err-push-clause-some : goal.returns-in_err-push-clause-some
returns-in_err-push-clause-some g c =
    OnErr-from c.from_residual-in_err-push.result (λ start looked.
    some-looked g.W.World.meaning start _ _ c.args.plan.now c.args.seen.now
    (record { place = c.args.place; when = c.in_ok-when.when }) looked
    c.in_ok-when.ensures.seen)

pub returns-clause-below : goal.returns-clause-below
returns-clause-below g c =
    still-below c.args.place (has c.args.wanted.now)
    (is_one_of (counted (node_at c.args.plan.now c.args.place) c.in_ok-when.when))
    (has c.want_counted.new.wanted) c.in_ok-want_counted.ensures c.requires.below

pub returns-clause-walk : goal.returns-clause-walk
returns-clause-walk g c = λ node first at.
    walk-looks c.args.plan.now node first c.args.place (has c.args.wanted.now)
    (has c.want_counted.new.wanted) c.in_ok-when.when c.args.seen.now c.push.new.self
    c.in_ok-want_counted.ensures c.in_ok-push.ensures.ok at

pub returns-clause-looked : goal.returns-clause-looked
returns-clause-looked g c = λ start looked.
    looked-more g.W.World.meaning start _ _ c.args.plan.now c.args.seen.now c.push.new.self
    (record { place = c.args.place; when = c.in_ok-when.when }) c.in_ok-push.ensures.ok looked
    c.in_ok-when.ensures.seen
