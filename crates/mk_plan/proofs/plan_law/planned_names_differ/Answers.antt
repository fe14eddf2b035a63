use Rattle.mk_plan.proofs.PlanLawLemmas.{names_differ}
use Rattle.mk_plan.proofs.plan_law.planned_names_differ.Goals as goal

pub returns : goal.returns
returns c = names_differ
