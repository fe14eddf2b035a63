use Rattle.std.proofs.Common.{arith}
use Rattle.std.proofs.lemmas.Grind.{common_steps}
use Rattle.mk_bytes.proofs.num.number.Goals as goal

pub returns-in_ok-magnitude-in-45 : goal.returns-in_ok-magnitude-in-45
returns-in_ok-magnitude-in-45 c = grind (arith, common_steps)

pub returns-in_err-magnitude-in-45 : goal.returns-in_err-magnitude-in-45
returns-in_err-magnitude-in-45 c = grind (arith, common_steps)

pub returns-in_ok-magnitude-in-43 : goal.returns-in_ok-magnitude-in-43
returns-in_ok-magnitude-in-43 c = grind (arith, common_steps)

pub returns-in_err-magnitude-in-43 : goal.returns-in_err-magnitude-in-43
returns-in_err-magnitude-in-43 c = grind (arith, common_steps)

pub returns-in_ok-magnitude-in_default-first : goal.returns-in_ok-magnitude-in_default-first
returns-in_ok-magnitude-in_default-first c = grind (arith, common_steps)

pub returns-in_err-magnitude-in_default-first : goal.returns-in_err-magnitude-in_default-first
returns-in_err-magnitude-in_default-first c = grind (arith, common_steps)
