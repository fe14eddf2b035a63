use Rattle.mk_world.proofs.RecordLemmas.{exact_records_tell, records_are_joined}
use Rattle.mk_world.proofs.law.records_may_tell.Goals as goal

pub returns-clause-exact : goal.returns-clause-exact
returns-clause-exact c = exact_records_tell

pub returns-clause-joined : goal.returns-clause-joined
returns-clause-joined c = records_are_joined
