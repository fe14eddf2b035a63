use Rattle.std.proofs.Common.{◌≡◌, Ok, inl, false}
use Rattle.mk_plan.specs.Plans.{planned}
use Rattle.mk_modes.proofs.MeaningLemmas.{unplanned-behind}
use Rattle.mk_modes.proofs.showing.show_plan.Goals as goal

pub returns-in_default-clause-shows : goal.returns-in_default-clause-shows
returns-in_default-clause-shows g c = λ first by. rw c.unbuilt.ensures (inl (unplanned-behind c.args.made.now
    c.args.flags.now.requested c.args.flags.now.query first (g.W.World.history c.args.world.now) (g.S.Sink.held c.args.out.now)
    (λ files. planned files c.args.made.now c.args.flags.now.requested c.args.flags.now.query ≡ Ok c.args.plan) by))
