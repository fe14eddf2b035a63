use Rattle.mk_audit.proofs.LawLemmas.{nodes-of-plan}
use Rattle.mk_audit.proofs.law.audited_nodes_are_of_the_plan.Goals as goal

pub returns : goal.returns
returns c = nodes-of-plan
