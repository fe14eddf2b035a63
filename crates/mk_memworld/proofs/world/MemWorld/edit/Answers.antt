use Rattle.std.proofs.Common.{◌∙◌, ap}
use Rattle.mk_world.specs.History.{State, tickets_of}
use Rattle.mk_memworld.proofs.ChronicleLemmas.{state_of-with_event}
use Rattle.mk_memworld.proofs.world.MemWorld.edit.Goals as goal

pub returns-clause-idle : goal.returns-clause-idle
returns-clause-idle c =
    let old = c.args.self.now.chronicle in
    ap (λ (s : State). tickets_of s.children)
    (state_of-with_event old c.edit.new.self _ c.in_ok-edit.ensures.ok)
    ∙ c.requires.idle
