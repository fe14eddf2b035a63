use Rattle.std.proofs.Common.{◌<◌, length, arith}
use Rattle.std.proofs.lemmas.Grind.{common_steps}
use Rattle.mk_modes.proofs.BuildingLemmas.{names_of-next}
use Rattle.mk_modes.proofs.building.names_of.Goals as goal

pub loop-n-preserved : goal.loop-n-preserved
loop-n-preserved c =
    let within : c.loop-n.n < length c.args.plan.now = grind (arith, common_steps) in
    let next = names_of-next c.args.plan.now c.loop-n.n c.loop-n.names within
    c.loop-n.invariant in
    grind (arith, common_steps)
