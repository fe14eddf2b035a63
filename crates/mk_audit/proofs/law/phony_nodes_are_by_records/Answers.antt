use Rattle.mk_audit.proofs.ReasonLemmas.{phony-by-records}
use Rattle.mk_audit.proofs.law.phony_nodes_are_by_records.Goals as goal

pub returns : goal.returns
returns c = phony-by-records
