use Rattle.mk_oodate.proofs.FreshLemmas.{no_reason_is_fresh, fresh_at_paths}
use Rattle.mk_oodate.proofs.law.no_reason_is_fresh.Goals as goal

pub returns-clause-fresh : goal.returns-clause-fresh
returns-clause-fresh c = no_reason_is_fresh

pub returns-clause-paths : goal.returns-clause-paths
returns-clause-paths c = fresh_at_paths
