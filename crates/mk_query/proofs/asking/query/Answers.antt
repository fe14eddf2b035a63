use Rattle.std.proofs.Common.{◌++◌, []}
use Rattle.mk_decision.specs.Makers.{work_on}
use Rattle.mk_query.proofs.AnswerLemmas.{answered-went, ends-by}
use Rattle.mk_query.proofs.LookLemmas.{saw}
use Rattle.mk_query.specs.Answers.{all_seen}
use Rattle.mk_world.proofs.IdleLemmas.{IsIdle}
use Rattle.mk_query.proofs.asking.query.Goals as goal

pub returns-clause-answered : goal.returns-clause-answered
returns-clause-answered g c =
    let went = c.first_not_kept-went in
    let idle : IsIdle (g.W.World.history c.args.world.now) =
    λ h is. g.met.W.World.told_children c.args.world.now h [] c.requires.idle is in
    let answered = answered-went g.W.World.meaning (work_on c.args.plan.now c.args.made.now c.args.flags.now) _ _ _
    went.result went.ensures.answered went.ensures.halted in
    rw c.ended_by.ensures (
      answered.0,
      saw g.W.World.meaning _ _ (all_seen answered.0.kept ++ answered.0.last) idle answered.1,
    )

pub returns-clause-world_cause : goal.returns-clause-world_cause
returns-clause-world_cause g c =
    let went = c.first_not_kept-went in
    rw c.ended_by.ensures (ends-by _ _ went.result went.ensures.cause went.ensures.no_fault)
