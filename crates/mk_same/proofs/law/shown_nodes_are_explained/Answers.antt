use Rattle.mk_same.proofs.ShownLemmas.{shown-are-explained}
use Rattle.mk_same.proofs.law.shown_nodes_are_explained.Goals as goal

pub returns : goal.returns
returns c = shown-are-explained
