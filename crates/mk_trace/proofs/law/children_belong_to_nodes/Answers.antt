use Rattle.mk_trace.proofs.TogetherLemmas.{children_belong}
use Rattle.mk_trace.proofs.law.children_belong_to_nodes.Goals as goal

pub returns : goal.returns
returns c = children_belong
