use Rattle.mk_makefile.proofs.KindLemmas.{turns_keep_kinds}
use Rattle.mk_makefile.proofs.law.turns_keep_kinds.Goals as goal

pub returns : goal.returns
returns c = turns_keep_kinds
