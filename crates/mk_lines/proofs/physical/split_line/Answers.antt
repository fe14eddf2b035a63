use Rattle.std.proofs.Common.{refl, arith}
use Rattle.std.proofs.lemmas.Grind.{common_steps}
use Rattle.mk_lines.proofs.PhysicalLemmas.{position_or_len-found, position_or_len-none}
use Rattle.mk_lines.proofs.physical.split_line.Goals as goal

pub returns-in-Some-clause-line : goal.returns-in-Some-clause-line
returns-in-Some-clause-line c =
    rw (position_or_len-found c.args.text.now c.in-Some.end c.in-Some.ensures) refl

pub returns-in-Some-clause-rest : goal.returns-in-Some-clause-rest
returns-in-Some-clause-rest c =
    rw (position_or_len-found c.args.text.now c.in-Some.end c.in-Some.ensures)
    (grind (arith, common_steps))

pub returns-in-None-clause-line : goal.returns-in-None-clause-line
returns-in-None-clause-line c =
    rw (position_or_len-none c.args.text.now c.in-None.ensures) (grind (arith, common_steps))

pub returns-in-None-clause-rest : goal.returns-in-None-clause-rest
returns-in-None-clause-rest c =
    rw (position_or_len-none c.args.text.now c.in-None.ensures) (grind (arith, common_steps))
