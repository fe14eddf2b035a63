use Rattle.mk_trace.proofs.RunLemmas.{decided_settled}
use Rattle.mk_trace.proofs.law.decided_nodes_depend_on_settled_ones.Goals as goal

pub returns : goal.returns
returns c = decided_settled
