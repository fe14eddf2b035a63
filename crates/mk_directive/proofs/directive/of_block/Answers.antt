use Rattle.std.proofs.Common.{rules, arith, refl, codes}
use Rattle.std.proofs.lemmas.Slice.Eq.{text_from_reads}
use Rattle.std.proofs.lemmas.Grind.{common_steps}
use Rattle.mk_directive.proofs.directive.of_block.Goals as goal

pub returns-in-else : goal.returns-in-else
returns-in-else c =
    rw (text_from_reads c.args.word.now (codes "else") (omega arith) (search rules)) refl

pub returns-in-endif : goal.returns-in-endif
returns-in-endif c =
    rw (text_from_reads c.args.word.now (codes "endif") (omega arith) (search rules)) refl

pub returns-in-for : goal.returns-in-for
returns-in-for c =
    rw (text_from_reads c.args.word.now (codes "for") (omega arith) (search rules)) refl

pub returns-in-endfor : goal.returns-in-endfor
returns-in-endfor c =
    rw (text_from_reads c.args.word.now (codes "endfor") (omega arith) (search rules)) refl

pub returns-in-break : goal.returns-in-break
returns-in-break c =
    rw (text_from_reads c.args.word.now (codes "break") (omega arith) (search rules)) refl

pub returns-in_default : goal.returns-in_default
returns-in_default c = grind (arith, common_steps)
