use Rattle.std.proofs.Common.{rules, arith, refl, codes}
use Rattle.std.proofs.lemmas.Slice.Eq.{text_from_reads}
use Rattle.std.proofs.lemmas.Grind.{common_steps}
use Rattle.mk_directive.proofs.directive.conditional.Goals as goal

pub returns-in-if : goal.returns-in-if
returns-in-if c =
    rw (text_from_reads c.args.word.now (codes "if") (omega arith) (search rules)) refl

pub returns-in-ifdef : goal.returns-in-ifdef
returns-in-ifdef c =
    rw (text_from_reads c.args.word.now (codes "ifdef") (omega arith) (search rules)) refl

pub returns-in-ifndef : goal.returns-in-ifndef
returns-in-ifndef c =
    rw (text_from_reads c.args.word.now (codes "ifndef") (omega arith) (search rules)) refl

pub returns-in-ifmake : goal.returns-in-ifmake
returns-in-ifmake c =
    rw (text_from_reads c.args.word.now (codes "ifmake") (omega arith) (search rules)) refl

pub returns-in-ifnmake : goal.returns-in-ifnmake
returns-in-ifnmake c =
    rw (text_from_reads c.args.word.now (codes "ifnmake") (omega arith) (search rules)) refl

pub returns-in_default : goal.returns-in_default
returns-in_default c = grind (arith, common_steps)
