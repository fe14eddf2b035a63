use Rattle.std.proofs.Common.{[], ◌∷◌, ◌++◌, refl, sym, ◌∙◌, ap}
use Rattle.std.specs.List.{list_any}
use Rattle.std.specs.Prelude.{nat_eq}
use Rattle.mk_world.specs.Calls.{OwnStart}
use Rattle.mk_world.specs.History.{State, state_of, tickets_of}
use Rattle.mk_world.specs.declared.history.Happening.TheVariants.{Start}
use Rattle.mk_memworld.proofs.ChronicleLemmas.{state_of-with_event}
use Rattle.mk_memworld.proofs.RunningLemmas.{AddsEvents-behind}
use Rattle.mk_memworld.proofs.WorldLemmas.{adds_event, not_held, refused_after, refused_later, tickets_of-append}
use Rattle.mk_memworld.proofs.world.MemWorldWorld.start.Goals as goal

pub returns-clause-done : goal.returns-clause-done
returns-clause-done c =
    let mid = c.begin.new.self.chronicle in
    let ticket = c.args.ticket.0 in
    let owner = c.args.owner.0 in
    let Own = OwnStart ticket owner c.args.cmd.now in
    AddsEvents-behind Own c.args.self.now.chronicle mid c.start.new.self c.begin.ensures.steps
    (adds_event Own mid c.start.new.self (Start ticket owner c.args.cmd.now)
    c.in_ok-start.ensures.ok (
      tt,
      not_held ticket (state_of mid).children
          (ap (list_any (nat_eq ticket)) (c.begin.ensures.tickets ∙ c.requires.exact)
          ∙ c.requires.fresh),
    ) refl)

pub returns-clause-children : goal.returns-clause-children
returns-clause-children c =
    let mid = c.begin.new.self.chronicle in
    ap (λ (s : State). tickets_of s.children)
    (state_of-with_event mid c.start.new.self
    (Start c.args.ticket.0 c.args.owner.0 c.args.cmd.now) c.in_ok-start.ensures.ok)
    ∙ tickets_of-append (state_of mid).children _
    ∙ ap (λ ks. ks ++ c.args.ticket.0 ∷ []) (c.begin.ensures.tickets ∙ c.requires.exact)
    ∙ sym c.add.ensures.tickets

pub returns-in_err-begin-clause-refused : goal.returns-in_err-begin-clause-refused
returns-in_err-begin-clause-refused c = refused_after _ _ _ c.begin.ensures.steps

pub returns-in_err-start-clause-refused : goal.returns-in_err-start-clause-refused
returns-in_err-start-clause-refused c =
    refused_later _ _ c.begin.new.self.chronicle _ c.begin.ensures.steps c.in_err-start.ensures.err
