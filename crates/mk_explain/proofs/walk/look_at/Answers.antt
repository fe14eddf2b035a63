use Rattle.mk_world.proofs.CauseLemmas.{HasCause-behind_ok}
use Rattle.mk_world.specs.declared.fault.WorldFault.TheVariants as world
use Rattle.mk_explain.specs.declared.fault.ExplainFault.TheVariants.{Failed}
use Rattle.mk_explain.proofs.walk.look_at.Goals as goal

pub returns-clause-cause : goal.returns-clause-cause
returns-clause-cause g c =
    HasCause-behind_ok world.Failed Failed _ _ c.in_ok-judgement.judgement c.told_of.result
    c.in_ok-judgement.ensures.cause c.told_of.ensures.own
