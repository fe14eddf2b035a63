use Rattle.std.proofs.Common.{arith}
use Rattle.std.proofs.lemmas.Grind.{common_steps}
use Rattle.mk_depline.proofs.brace.spelled_words.Goals as goal

pub pieces-init : goal.pieces-init
pieces-init c = grind (arith, common_steps)

pub pieces-smaller : goal.pieces-smaller
pieces-smaller c = grind (arith, common_steps)

pub returns-in-None : goal.returns-in-None
returns-in-None c = grind (arith, common_steps)

pub pieces-preserved : goal.pieces-preserved
pieces-preserved c = grind (arith, common_steps)
