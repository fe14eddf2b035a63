use Rattle.mk_meta.proofs.MetaLemmas.{none_begins}
use Rattle.mk_meta.proofs.law.no_text_begins_another.Goals as goal

pub returns : goal.returns
returns c = none_begins
