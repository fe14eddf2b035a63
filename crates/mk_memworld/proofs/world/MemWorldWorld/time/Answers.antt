use Rattle.std.proofs.Common.{refl, ◌∙◌, ap}
use Rattle.mk_world.specs.Calls.{OwnTime, when_of}
use Rattle.mk_world.specs.History.{State, tickets_of}
use Rattle.mk_world.specs.declared.history.Happening.TheVariants.{Look}
use Rattle.mk_memworld.proofs.ChronicleLemmas.{state_of-with_event}
use Rattle.mk_memworld.proofs.RunningLemmas.{AddsEvents-behind}
use Rattle.mk_memworld.proofs.WorldLemmas.{adds_event, refused_after, refused_later}
use Rattle.mk_memworld.proofs.world.MemWorldWorld.time.Goals as goal

pub returns-clause-done : goal.returns-clause-done
returns-clause-done c =
    let path = c.args.path.now in
    let mid = c.begin.new.self.chronicle in
    AddsEvents-behind (OwnTime path c.when_of-when.result) c.args.self.now.chronicle mid c.look.new.self c.begin.ensures.steps
    (adds_event (OwnTime path c.when_of-when.result) mid c.look.new.self (Look path) c.in_ok-look.ensures.ok (tt, tt)
    (refl, c.when_of-when.ensures ∙ ap when_of c.file.ensures))

pub returns-clause-children : goal.returns-clause-children
returns-clause-children c = λ kids runs.
    ap (λ (s : State). tickets_of s.children)
    (state_of-with_event c.begin.new.self.chronicle c.look.new.self (Look c.args.path.now)
    c.in_ok-look.ensures.ok)
    ∙ c.begin.ensures.tickets ∙ runs

pub returns-in_err-begin-clause-refused : goal.returns-in_err-begin-clause-refused
returns-in_err-begin-clause-refused c = refused_after _ _ _ c.begin.ensures.steps

pub returns-in_err-look-clause-refused : goal.returns-in_err-look-clause-refused
returns-in_err-look-clause-refused c =
    refused_later _ _ c.begin.new.self.chronicle _ c.begin.ensures.steps c.in_err-look.ensures.err
