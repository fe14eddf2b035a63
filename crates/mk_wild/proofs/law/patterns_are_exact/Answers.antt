use Rattle.mk_wild.proofs.WildLemmas.{patterns-are-exact}
use Rattle.mk_wild.proofs.law.patterns_are_exact.Goals as goal

pub returns : goal.returns
returns c = patterns-are-exact
