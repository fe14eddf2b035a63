use Rattle.std.proofs.Common.{[], ◌∷◌, ◌++◌, refl, ap, ◌∙◌}
use Rattle.std.proofs.lemmas.Result.{err_from_is_err_and}
use Rattle.mk_blocks.specs.Acts.{listed}
use Rattle.mk_makefile.specs.declared.note.Note.TheVariants.{Listed}
use Rattle.mk_makefile.proofs.MomentLemmas.{names-noted}
use Rattle.mk_world.proofs.IdleLemmas.{IsIdle, listed_idle, same_idle}
use Rattle.mk_reader.proofs.GaveLemmas.{gave-asked, gave-unread, leads-noted, world-cause}
use Rattle.mk_reader.proofs.StepLemmas.{changed-want}
use Rattle.mk_reader.proofs.reader.Reader.names_in.Goals as goal

pub returns-then-is_err : goal.returns-then-is_err
returns-then-is_err g c =
    changed-want _ _ _ (record { world = refl; err = refl; state = refl; order = refl; same = refl })
    _ _ refl c.reserve.ensures.items

pub returns-in_err-names : goal.returns-in_err-names
returns-in_err-names g c =
    let p = err_from_is_err_and c.from_residual.result c.from_residual.ensures.1 in
    rw (p.1, p.2)
    (gave-unread _ _ _
    (record { world = refl; err = refl; state = refl; order = refl; same = refl }) _ _ _
    c.reserve.ensures.items
    (λ runs.
    let idle : IsIdle (g.W.World.history c.args.self.now.world.now) =
    λ h is. g.met.W.World.told_children c.args.self.now.world.now h [] runs is in
    same_idle g.W.World.meaning _ _ idle c.in_err-names.ensures.refused)
    (λ runs. c.in_err-names.ensures.children [] runs)
    c.in_err-names.ensures.cause)

pub returns : goal.returns
returns g c =
    let note = Listed c.of.result c.of-2.result in
    let pushed = (rw c.unwrap.ensures at c.push.ensures.items)
    ∙ ap (λ l. l ++ note ∷ []) c.reserve.ensures.items in
    gave-asked _ _ _ _ _ (listed c.args.dir.now ∷ []) note refl pushed (rw c.of.ensures refl) refl _
    (leads-noted _ _ _
    (record { world = refl; err = refl; state = refl; order = refl; same = refl }) note pushed
    (λ runs.
    let idle : IsIdle (g.W.World.history c.args.self.now.world.now) =
    λ h is. g.met.W.World.told_children c.args.self.now.world.now h [] runs is in
    listed_idle g.W.World.meaning c.of.result.value c.of-2.result.value
    (g.W.World.history c.args.self.now.world.now) (g.W.World.history c.list.new.self) idle
    (rw (c.of.ensures, ← c.bytes.ensures.value, c.of-2.ensures) c.in_ok-names.ensures.done))
    refl
    (λ runs. c.in_ok-names.ensures.children [] runs)
    (world-cause _ _ _ c.in_ok-names.ensures.cause))
    (λ answers by.
    names-noted answers c.args.self.now.state.now
    (record c.args.self.now.state.now { notes = c.push.new.self })
    c.args.self.now.order.now c.args.self.now.order.now note
    c.args.dir.now c.in_ok-names.names refl refl refl pushed
    (rw (c.of.ensures, c.of-2.ensures) refl) by)
