use Rattle.mk_explain.proofs.LawLemmas.{counts-as-new, others-stay}
use Rattle.mk_explain.proofs.law.reasons_count_as_new.Goals as goal

pub returns-clause-new : goal.returns-clause-new
returns-clause-new c = counts-as-new

pub returns-clause-others : goal.returns-clause-others
returns-clause-others c = others-stay
