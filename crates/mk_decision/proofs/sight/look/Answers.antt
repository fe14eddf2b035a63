use Rattle.std.proofs.Common.{[]}
use Rattle.mk_world.proofs.SinkLemmas.{OnErr-from}
use Rattle.mk_decision.proofs.SightLemmas.{saw-behind, some-behind}
use Rattle.mk_decision.proofs.sight.look.Goals as goal

pub returns-in_err-target-clause-some : goal.returns-in_err-target-clause-some
returns-in_err-target-clause-some g c =
    OnErr-from c.from_residual.result (record { seen = []; looked = c.in_err-target.ensures.refused })

pub returns-in_err-sources-clause-some : goal.returns-in_err-sources-clause-some
returns-in_err-sources-clause-some g c =
    OnErr-from c.from_residual-in_err-sources.result
    (some-behind g.W.World.meaning _ _ _ _ c.in_ok-target.ensures.seen
    c.in_err-sources.ensures.some)

pub returns-clause-seen : goal.returns-clause-seen
returns-clause-seen g c =
    saw-behind g.W.World.meaning _ _ _ c.args.plan.now c.args.node c.in_ok-target.target
    c.in_ok-sources.sources c.in_ok-target.ensures.seen c.in_ok-sources.ensures.looked
