use Rattle.std.proofs.Common.{◌≡◌, Ok, inl, false}
use Rattle.mk_plan.specs.Plans.{planned}
use Rattle.mk_modes.proofs.MeaningLemmas.{unplanned-behind}
use Rattle.mk_modes.proofs.explaining.explain_plan.Goals as goal

pub returns-in_default-clause-explains : goal.returns-in_default-clause-explains
returns-in_default-clause-explains g c = λ first by. rw c.unbuilt.ensures (inl (unplanned-behind c.args.made.now
    c.args.flags.now.requested false first (g.W.World.history c.args.world.now) (g.S.Sink.held c.args.out.now)
    (λ files. planned files c.args.made.now c.args.flags.now.requested false ≡ Ok c.args.plan) by))
