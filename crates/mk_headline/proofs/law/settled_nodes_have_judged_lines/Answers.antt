use Rattle.mk_headline.proofs.JudgedLemmas.{settled-judged}
use Rattle.mk_headline.proofs.law.settled_nodes_have_judged_lines.Goals as goal

pub returns : goal.returns
returns c = settled-judged
