use Rattle.mk_trace.proofs.RunLemmas.{first_ready_decided}
use Rattle.mk_trace.proofs.law.the_first_ready_node_is_decided.Goals as goal

pub returns : goal.returns
returns c = first_ready_decided
