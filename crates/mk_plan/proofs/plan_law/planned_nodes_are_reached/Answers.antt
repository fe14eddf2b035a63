use Rattle.mk_plan.proofs.PlanLawLemmas.{plans_reached}
use Rattle.mk_plan.proofs.plan_law.planned_nodes_are_reached.Goals as goal

pub returns : goal.returns
returns c = plans_reached
