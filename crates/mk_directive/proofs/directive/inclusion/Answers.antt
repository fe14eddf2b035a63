use Rattle.std.proofs.Common.{rules, arith, refl, codes}
use Rattle.std.proofs.lemmas.Slice.Eq.{text_from_reads}
use Rattle.std.proofs.lemmas.Grind.{common_steps}
use Rattle.mk_directive.proofs.directive.inclusion.Goals as goal

pub returns-in-include : goal.returns-in-include
returns-in-include c =
    rw (text_from_reads c.args.word.now (codes "include") (omega arith) (search rules)) refl

pub returns-in-45 : goal.returns-in-45
returns-in-45 c =
    rw (text_from_reads c.args.word.now (codes "-include") (omega arith) (search rules)) refl

pub returns-in-45-2 : goal.returns-in-45-2
returns-in-45-2 c =
    rw (text_from_reads c.args.word.now (codes "sinclude") (omega arith) (search rules)) refl

pub returns-in-45-3 : goal.returns-in-45-3
returns-in-45-3 c =
    rw (text_from_reads c.args.word.now (codes "dinclude") (omega arith) (search rules)) refl

pub returns-in_default : goal.returns-in_default
returns-in_default c = grind (arith, common_steps)
