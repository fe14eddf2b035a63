use Rattle.mk_plan.proofs.NewerLemmas.{newer_do_not_count}
use Rattle.mk_plan.proofs.law.newer_sources_do_not_count.Goals as goal

pub returns : goal.returns
returns c = newer_do_not_count
