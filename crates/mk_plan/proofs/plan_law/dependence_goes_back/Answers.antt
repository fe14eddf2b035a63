use Rattle.mk_plan.proofs.PlanLawLemmas.{dependence_back}
use Rattle.mk_plan.proofs.plan_law.dependence_goes_back.Goals as goal

pub returns : goal.returns
returns c = dependence_back
