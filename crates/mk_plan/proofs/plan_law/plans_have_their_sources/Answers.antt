use Rattle.mk_plan.proofs.PlanLawLemmas.{plans_sourced}
use Rattle.mk_plan.proofs.plan_law.plans_have_their_sources.Goals as goal

pub returns : goal.returns
returns c = plans_sourced
