use Rattle.std.proofs.Common.{◌+◌, refl, ◌∙◌, ap, arith}
use Rattle.mk_world.specs.Calls.{OwnGone}
use Rattle.mk_world.specs.History.{State, state_of, tickets_of}
use Rattle.mk_world.specs.declared.history.Happening.TheVariants.{Gone}
use Rattle.mk_memworld.proofs.ChronicleLemmas.{state_of-with_event}
use Rattle.mk_memworld.proofs.RunningLemmas.{AddsEvents-behind}
use Rattle.mk_memworld.proofs.WorldLemmas.{adds_event, refused_after, refused_later}
use Rattle.mk_memworld.proofs.world.MemWorldWorld.remove.Goals as goal

pub returns-clause-done : goal.returns-clause-done
returns-clause-done c =
    let mid = c.begin.new.self.chronicle in
    let path = c.args.path.now in
    let time = (state_of mid).clock + 1 in
    AddsEvents-behind (OwnGone path) c.args.self.now.chronicle mid c.remove.new.self
    c.begin.ensures.steps
    (adds_event (OwnGone path) mid c.remove.new.self (Gone path time) c.in_ok-remove.ensures.ok
    ((omega arith, tt), tt) (time, refl))

pub returns-clause-children : goal.returns-clause-children
returns-clause-children c = λ kids runs.
    ap (λ (s : State). tickets_of s.children)
    (state_of-with_event c.begin.new.self.chronicle c.remove.new.self _
    c.in_ok-remove.ensures.ok)
    ∙ c.begin.ensures.tickets ∙ runs

pub returns-in_err-begin-clause-refused : goal.returns-in_err-begin-clause-refused
returns-in_err-begin-clause-refused c = refused_after _ _ _ c.begin.ensures.steps

pub returns-in_err-remove-clause-refused : goal.returns-in_err-remove-clause-refused
returns-in_err-remove-clause-refused c =
    refused_later _ _ c.begin.new.self.chronicle _ c.begin.ensures.steps c.in_err-remove.ensures.err
