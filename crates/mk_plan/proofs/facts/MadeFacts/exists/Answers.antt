use Rattle.std.proofs.Common.{[], rules}
use Rattle.mk_world.proofs.IdleLemmas.{IsIdle}
use Rattle.mk_plan.proofs.AskingLemmas.{asking-timed, asking-refused, beside-timed, beside-refused}
use Rattle.mk_plan.proofs.facts.MadeFacts.exists.Goals as goal

pub returns-in-Ok-clause-asking : goal.returns-in-Ok-clause-asking
returns-in-Ok-clause-asking g c = λ runs.
    let idle : IsIdle (g.W.World.history c.args.self.now.world.now) =
    λ h is. g.met.W.World.told_children c.args.self.now.world.now h [] runs is in
    let asks = asking-timed g.W.World.meaning c.bytes.result.now c.in-Ok.when _ _
    c.args.self.now.asked.now.items idle c.in-Ok.ensures.done in
    search rules

pub returns-in-Err-clause-asking : goal.returns-in-Err-clause-asking
returns-in-Err-clause-asking g c = λ runs.
    let idle : IsIdle (g.W.World.history c.args.self.now.world.now) =
    λ h is. g.met.W.World.told_children c.args.self.now.world.now h [] runs is in
    rw c.reserve.ensures.items
    (asking-refused g.W.World.meaning _ _ _ idle c.in-Err.ensures.refused)

pub returns-in-Ok-clause-beside : goal.returns-in-Ok-clause-beside
returns-in-Ok-clause-beside g c =
    let asks = beside-timed g.W.World.meaning c.bytes.result.now c.in-Ok.when _ _
    c.args.self.now.asked.now.items c.in-Ok.ensures.done in
    search rules

pub returns-in-Err-clause-beside : goal.returns-in-Err-clause-beside
returns-in-Err-clause-beside g c =
    rw c.reserve.ensures.items
    (beside-refused g.W.World.meaning _ _ _ c.in-Err.ensures.refused)
