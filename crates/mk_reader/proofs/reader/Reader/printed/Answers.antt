use Rattle.std.proofs.Common.{◌≡◌, [], ◌∷◌, ◌++◌, refl, ap, ◌∙◌}
use Rattle.mk_blocks.specs.Acts.{Act, ran}
use Rattle.mk_makefile.specs.declared.note.Note.TheVariants.{Cut, Ran}
use Rattle.mk_makefile.proofs.MomentLemmas.{output-noted}
use Rattle.mk_world.proofs.AskLemmas.{asked_idle, unanswered_idle}
use Rattle.mk_world.proofs.IdleLemmas.{IsIdle}
use Rattle.mk_world.specs.declared.command.Cmd.{Cmd}
use Rattle.mk_reader.proofs.GaveLemmas.{gave-asked, gave-cut_off, leads-noted, world-cause}
use Rattle.mk_reader.proofs.StepLemmas.{changed-want}
use Rattle.mk_reader.proofs.reader.Reader.printed.Goals as goal

pub returns-then-is_err : goal.returns-then-is_err
returns-then-is_err g c =
    changed-want _ _ _ (record { world = refl; err = refl; state = refl; order = refl; same = refl })
    _ _ refl c.reserve.ensures.items

pub returns-in-Ok : goal.returns-in-Ok
returns-in-Ok g c =
    let note = Ran c.of.result c.of-in-Ok.result in
    let pushed = (rw c.unwrap.ensures at c.push.ensures.items)
    ∙ ap (λ l. l ++ note ∷ []) c.reserve.ensures.items in
    let x = c.args.self.now in
    let act : Act = ran c.args.cmd.now in
    gave-asked _ _ _ _ _ (act ∷ []) note refl pushed
    (ap (λ (cmd : Cmd). ran cmd ∷ []) c.of.ensures) refl _
    (leads-noted _ _ _
    (record { world = refl; err = refl; state = refl; order = refl; same = refl }) note pushed
    (λ runs.
    let idle : IsIdle (g.W.World.history c.args.self.now.world.now) =
    λ h is. g.met.W.World.told_children c.args.self.now.world.now h [] runs is in
    asked_idle g.W.World.meaning c.of.result.value c.of-in-Ok.result.value
    (g.W.World.history c.args.self.now.world.now) (g.W.World.history c.ask.new.self) idle
    (rw (c.of.ensures, c.of-in-Ok.ensures) c.in-Ok.ensures.done))
    refl
    (λ runs. c.in-Ok.ensures.children [] runs)
    (world-cause _ _ _ c.in-Ok.ensures.cause))
    (λ answers by.
    output-noted answers x.state.now (record x.state.now { notes = c.push.new.self })
    x.order.now x.order.now note c.args.cmd.now c.in-Ok.ended refl refl refl pushed
    (rw (c.of.ensures, c.of-in-Ok.ensures) refl) by)

pub returns-in-Err : goal.returns-in-Err
returns-in-Err g c =
    let note = Cut c.of-in-Err.result in
    let pushed = (rw c.unwrap-in-Err.ensures at c.push-in-Err.ensures.items)
    ∙ ap (λ l. l ++ note ∷ []) c.reserve.ensures.items in
    let act : Act = ran c.args.cmd.now in
    rw c.from.ensures
    (gave-cut_off _ _ _
    (record { world = refl; err = refl; state = refl; order = refl; same = refl }) _ _ _ note act
    (λ answers. []) pushed (ap (λ (cmd : Cmd). ran cmd ∷ []) c.of-in-Err.ensures) refl
    (λ answers. refl)
    (λ runs.
    let idle : IsIdle (g.W.World.history c.args.self.now.world.now) =
    λ h is. g.met.W.World.told_children c.args.self.now.world.now h [] runs is in
    rw c.of-in-Err.ensures (unanswered_idle g.W.World.meaning _ _ _ idle c.in-Err.ensures.refused))
    (λ runs. c.in-Err.ensures.children [] runs)
    c.in-Err.ensures.cause)
