use Rattle.std.proofs.Common.{refl, ◌∙◌, ap}
use Rattle.mk_world.specs.Calls.{OwnList}
use Rattle.mk_world.specs.History.{State, files_of, tickets_of}
use Rattle.mk_world.specs.declared.history.Happening.TheVariants.{Look}
use Rattle.mk_memworld.proofs.ChronicleLemmas.{state_of-with_event}
use Rattle.mk_memworld.proofs.ListLemmas.{lists-ordered}
use Rattle.mk_memworld.proofs.RunningLemmas.{AddsEvents-behind}
use Rattle.mk_memworld.proofs.WorldLemmas.{adds_event, refused_after, refused_later}
use Rattle.mk_memworld.proofs.world.MemWorldWorld.list.Goals as goal

pub returns-clause-done : goal.returns-clause-done
returns-clause-done c =
    let dir = c.args.dir.now in
    let mid = c.begin.new.self.chronicle in
    AddsEvents-behind (OwnList dir c.in_ok-names.names) c.args.self.now.chronicle mid c.look.new.self c.begin.ensures.steps
    (adds_event (OwnList dir c.in_ok-names.names) mid c.look.new.self (Look dir) c.in_ok-look.ensures.ok (tt, tt)
    (refl, c.in_ok-names.ensures))

pub returns-clause-ordered : goal.returns-clause-ordered
returns-clause-ordered c =
    lists-ordered (files_of c.begin.new.self.chronicle) c.args.dir.now c.in_ok-names.names
    c.in_ok-names.ensures

pub returns-clause-children : goal.returns-clause-children
returns-clause-children c = λ kids runs.
    ap (λ (s : State). tickets_of s.children)
    (state_of-with_event c.begin.new.self.chronicle c.look.new.self (Look c.args.dir.now)
    c.in_ok-look.ensures.ok)
    ∙ c.begin.ensures.tickets ∙ runs

pub returns-in_err-begin-clause-refused : goal.returns-in_err-begin-clause-refused
returns-in_err-begin-clause-refused c = refused_after _ _ _ c.begin.ensures.steps

pub returns-in_err-names-clause-refused : goal.returns-in_err-names-clause-refused
returns-in_err-names-clause-refused c = refused_after _ _ _ c.begin.ensures.steps

pub returns-in_err-look-clause-refused : goal.returns-in_err-look-clause-refused
returns-in_err-look-clause-refused c =
    refused_later _ _ c.begin.new.self.chronicle _ c.begin.ensures.steps c.in_err-look.ensures.err
