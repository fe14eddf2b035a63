use Rattle.mk_meta.proofs.MetaLemmas.{head_is_none}
use Rattle.mk_meta.proofs.law.the_head_is_no_text.Goals as goal

pub returns : goal.returns
returns c = head_is_none
