use Rattle.std.proofs.Common.{[]}
use Rattle.mk_dirs.proofs.LookLemmas.{OnErr-looked, ByLooks-refused, ByLooks-timed}
use Rattle.mk_world.proofs.IdleLemmas.{IsIdle}
use Rattle.mk_dirs.proofs.places.is_missing.Goals as goal

pub returns-in_err-when-clause-refused : goal.returns-in_err-when-clause-refused
returns-in_err-when-clause-refused g c =
    let idle : IsIdle (g.W.World.history c.args.world.now) =
    λ h is. g.met.W.World.told_children c.args.world.now h [] c.requires.idle is in
    OnErr-looked _ _ _
    (ByLooks-refused g.W.World.meaning _ _ _ idle c.in_err-when.ensures.refused (λ files. tt))

pub returns-clause-told : goal.returns-clause-told
returns-clause-told g c =
    let idle : IsIdle (g.W.World.history c.args.world.now) =
    λ h is. g.met.W.World.told_children c.args.world.now h [] c.requires.idle is in
    rw c.is_missing.ensures (ByLooks-timed g.W.World.meaning c.args.path.now c.in_ok-when.when
    _ _ idle c.in_ok-when.ensures.done)
