use Rattle.std.proofs.Common.{map}
use Rattle.mk_world.proofs.SinkLemmas.{OnErr-from}
use Rattle.mk_world.specs.Looks.{dated}
use Rattle.mk_decision.proofs.DateLemmas.{dated-more}
use Rattle.mk_decision.proofs.LookLemmas.{looks-refused, looks-timed}
use Rattle.mk_decision.proofs.NewestLemmas.{raised-more}
use Rattle.mk_decision.proofs.SightLemmas.{some-next}
use Rattle.mk_decision.proofs.paths.look_at.Goals as goal

pub returns-in_err-when-clause-some : goal.returns-in_err-when-clause-some
returns-in_err-when-clause-some g c =
    OnErr-from c.from_residual.result (λ start all rest so_far.
    some-next g.W.World.meaning start _ _ (map dated so_far.dates) _ so_far.looked
    (looks-refused g.W.World.meaning _ _ c.in_err-when.ensures.refused))

pub returns-in_err-push-clause-some : goal.returns-in_err-push-clause-some
returns-in_err-push-clause-some g c =
    OnErr-from c.from_residual-in_err-push.result (λ start all rest so_far.
    some-next g.W.World.meaning start _ _ (map dated so_far.dates) _ so_far.looked
    (looks-timed g.W.World.meaning _ _ c.args.path.now c.in_ok-when.when c.in_ok-when.ensures.done))

pub returns-clause-seen : goal.returns-clause-seen
returns-clause-seen g c = λ start all rest so_far.
    dated-more g.W.World.meaning start _ _ all rest c.args.path.now c.in_ok-when.when c.args.whens.now
    c.push.new.self c.in_ok-when.ensures.done c.in_ok-push.ensures.ok so_far

pub returns-clause-newest : goal.returns-clause-newest
returns-clause-newest g c = λ start was.
    raised-more start c.args.whens.now c.push.new.self c.in_ok-when.when _ _ c.in_ok-push.ensures.ok was
    c.raise.ensures
