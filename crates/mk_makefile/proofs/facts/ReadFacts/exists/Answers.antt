use Rattle.std.proofs.Common.{[], ◌∷◌, ◌++◌, refl, ap, ◌∙◌}
use Rattle.mk_world.proofs.IdleLemmas.{IsIdle}
use Rattle.mk_makefile.specs.declared.note.Note.TheVariants.{Time}
use Rattle.mk_makefile.proofs.QuestionLemmas.{asked_by-push, led_once, led_refused, timed_idle}
use Rattle.mk_makefile.proofs.facts.ReadFacts.exists.Goals as goal

pub returns-in-Ok-clause-asked : goal.returns-in-Ok-clause-asked
returns-in-Ok-clause-asked g c =
    let pushed = rw c.unwrap.ensures at c.push.ensures.items in
    asked_by-push c.args.self.now.notes.now.items _ (Time c.of.result c.of-in-Ok.result) _
    (pushed ∙ ap (λ l. l ++ Time c.of.result c.of-in-Ok.result ∷ []) c.reserve.ensures.items)
    (rw (c.of.ensures, c.in_ok-path.ensures, c.of-in-Ok.ensures, c.is_missing.ensures) refl)

pub returns-in-Ok-clause-led : goal.returns-in-Ok-clause-led
returns-in-Ok-clause-led g c =
    let pushed = rw c.unwrap.ensures at c.push.ensures.items in
    led_once g.W.World.meaning _ _ _ _ _ (Time c.of.result c.of-in-Ok.result)
    (pushed ∙ ap (λ l. l ++ Time c.of.result c.of-in-Ok.result ∷ []) c.reserve.ensures.items)
    tt
    (λ runs.
    let idle : IsIdle (g.W.World.history c.args.self.now.world.now) =
    λ h is. g.met.W.World.told_children c.args.self.now.world.now h [] runs is in
    timed_idle g.W.World.meaning _ _ _ _ idle
    (rw (c.of.ensures, ← c.bytes.ensures.value, c.of-in-Ok.ensures) c.in-Ok.ensures.done))

pub returns-clause-led : goal.returns-clause-led
returns-clause-led g c =
    led_refused g.W.World.meaning _ _ _ _ _ c.reserve.ensures.items
    (λ runs h is. g.met.W.World.told_children c.args.self.now.world.now h [] runs is)
    c.in-Err.ensures.refused
