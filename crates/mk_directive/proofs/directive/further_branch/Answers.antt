use Rattle.std.proofs.Common.{rules, arith, refl, codes}
use Rattle.std.proofs.lemmas.Slice.Eq.{text_from_reads}
use Rattle.std.proofs.lemmas.Grind.{common_steps}
use Rattle.mk_directive.proofs.directive.further_branch.Goals as goal

pub returns-in-elif : goal.returns-in-elif
returns-in-elif c =
    rw (text_from_reads c.args.word.now (codes "elif") (omega arith) (search rules)) refl

pub returns-in-elifdef : goal.returns-in-elifdef
returns-in-elifdef c =
    rw (text_from_reads c.args.word.now (codes "elifdef") (omega arith) (search rules)) refl

pub returns-in-elifndef : goal.returns-in-elifndef
returns-in-elifndef c =
    rw (text_from_reads c.args.word.now (codes "elifndef") (omega arith) (search rules)) refl

pub returns-in-elifmake : goal.returns-in-elifmake
returns-in-elifmake c =
    rw (text_from_reads c.args.word.now (codes "elifmake") (omega arith) (search rules)) refl

pub returns-in-elifnmake : goal.returns-in-elifnmake
returns-in-elifnmake c =
    rw (text_from_reads c.args.word.now (codes "elifnmake") (omega arith) (search rules)) refl

pub returns-in_default : goal.returns-in_default
returns-in_default c = grind (arith, common_steps)
