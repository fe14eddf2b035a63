use Rattle.std.proofs.Common.{◌≡◌, ◌∙◌, true, false, sym}
use Rattle.mk_world.proofs.SinkLemmas.{OnErr-from}
use Rattle.mk_plan.specs.Plans.{node_at}
use Rattle.mk_decision.proofs.LookLemmas.{looks-none, looks-refused, looks-timed}
use Rattle.mk_decision.proofs.sight.time_of.Goals as goal

pub returns-then-has-clause-seen : goal.returns-then-has-clause-seen
returns-then-has-clause-seen g c =
    let phony : (node_at c.args.plan.now c.args.place).marks.phony ≡ true =
    sym c.has.ensures ∙ c.if-has.true in
    rw phony (looks-none g.W.World.meaning _)

pub returns-in_err-when-clause-refused : goal.returns-in_err-when-clause-refused
returns-in_err-when-clause-refused g c =
    OnErr-from c.from_residual.result
    (looks-refused g.W.World.meaning _ _ c.in_err-when.ensures.refused)

pub returns-clause-seen : goal.returns-clause-seen
returns-clause-seen g c =
    let file : (node_at c.args.plan.now c.args.place).marks.phony ≡ false =
    sym c.has.ensures ∙ c.if-has.false in
    rw (file, ← c.name.ensures) (looks-timed g.W.World.meaning _ _ c.name.result.now
    c.in_ok-when.when c.in_ok-when.ensures.done)
