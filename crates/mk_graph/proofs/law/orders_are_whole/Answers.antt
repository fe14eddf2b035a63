use Rattle.mk_graph.proofs.WholeLemmas.{orders_whole}
use Rattle.mk_graph.proofs.law.orders_are_whole.Goals as goal

pub returns : goal.returns
returns c = orders_whole
