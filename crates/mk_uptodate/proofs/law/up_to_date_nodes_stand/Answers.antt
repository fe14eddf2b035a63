use Rattle.mk_uptodate.proofs.NodeLemmas.{up_to_date_nodes_stand}
use Rattle.mk_uptodate.proofs.law.up_to_date_nodes_stand.Goals as goal

pub returns : goal.returns
returns c = up_to_date_nodes_stand
