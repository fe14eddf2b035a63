use Rattle.mk_uptodate.proofs.RecordedLemmas.{recorded_files_are_declared, recorded_nodes_do_the_same}
use Rattle.mk_uptodate.proofs.law.recorded_files_are_declared.Goals as goal

pub returns-clause-nodes : goal.returns-clause-nodes
returns-clause-nodes c = recorded_nodes_do_the_same

pub returns-clause-files : goal.returns-clause-files
returns-clause-files c = recorded_files_are_declared
