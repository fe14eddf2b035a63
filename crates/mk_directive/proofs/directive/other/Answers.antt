use Rattle.std.proofs.Common.{rules, arith, refl, codes}
use Rattle.std.proofs.lemmas.Slice.Eq.{text_from_reads}
use Rattle.std.proofs.lemmas.Grind.{common_steps}
use Rattle.mk_directive.proofs.directive.other.Goals as goal

pub returns-in-undef : goal.returns-in-undef
returns-in-undef c =
    rw (text_from_reads c.args.word.now (codes "undef") (omega arith) (search rules)) refl

pub returns-in-error : goal.returns-in-error
returns-in-error c =
    rw (text_from_reads c.args.word.now (codes "error") (omega arith) (search rules)) refl

pub returns-in-warning : goal.returns-in-warning
returns-in-warning c =
    rw (text_from_reads c.args.word.now (codes "warning") (omega arith) (search rules)) refl

pub returns-in-info : goal.returns-in-info
returns-in-info c =
    rw (text_from_reads c.args.word.now (codes "info") (omega arith) (search rules)) refl

pub returns-in-export : goal.returns-in-export
returns-in-export c =
    rw (text_from_reads c.args.word.now (codes "export") (omega arith) (search rules)) refl

pub returns-in-unexport : goal.returns-in-unexport
returns-in-unexport c =
    rw (text_from_reads c.args.word.now (codes "unexport") (omega arith) (search rules)) refl

pub returns-in_default : goal.returns-in_default
returns-in_default c = grind (arith, common_steps)
