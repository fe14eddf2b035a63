use Rattle.std.proofs.Common.{arith}
use Rattle.std.proofs.lemmas.Grind.{common_steps}
use Rattle.mk_depline.proofs.line.line_of.Goals as goal

pub returns-in-Some : goal.returns-in-Some
returns-in-Some c = grind (arith, common_steps)

pub returns-then-are_mixed : goal.returns-then-are_mixed
returns-then-are_mixed c = grind (arith, common_steps)

pub returns-in_ok-plain_line-in-None : goal.returns-in_ok-plain_line-in-None
returns-in_ok-plain_line-in-None c = grind (arith, common_steps)
