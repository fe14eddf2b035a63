use Rattle.std.proofs.Common.{rules, ◌≡◌, ◌+◌, [], ◌∷◌, ◌++◌, refl, sym, ap, ◌∙◌, subst, arith}
use Rattle.std.proofs.lemmas.Grind.{common_steps}
use Rattle.mk_world.specs.History.{NotEarlier, effected_all, last_time, timed_effects}
use Rattle.mk_world.specs.declared.history.Happening.TheVariants.{Ask}
use Rattle.mk_commands.specs.Clock.{numbers, timed}
use Rattle.mk_commands.specs.Files.{files_in}
use Rattle.mk_commands.proofs.TimeLemmas.{NotEarlier-timed, last_time-timed}
use Rattle.mk_memworld.proofs.ChronicleLemmas.{IsPresent-more}
use Rattle.mk_memworld.proofs.chronicle.Chronicle.run.Goals as goal

pub invariant_of-self-2 : goal.invariant_of-self-2
invariant_of-self-2 c =
    let t = c.self.inside in
    let deeds = c.args.deeds.now in
    let steps = c.in_ok-steps.steps in
    let event = Ask c.in_ok-cmd.cmd steps in
    let items : c.push.new.self.items ≡ t.events.items ++ event ∷ [] =
    grind (arith, common_steps) in
    let are : steps ≡ timed t.clock deeds =
    c.in_ok-steps.ensures ∙ ap (timed t.clock) c.as_slice.ensures.value in
    let clock : t.clock + c.all_taken.result ≡ last_time t.clock (timed_effects steps) =
    ap (λ n. t.clock + n) (c.all_taken.ensures ∙ ap numbers c.as_slice-3.ensures.value)
    ∙ sym (last_time-timed t.clock deeds)
    ∙ ap (λ s. last_time t.clock (timed_effects s)) (sym are) in
    IsPresent-more t _ event c.self.invariant refl items
    (c.in_ok-apply_all.ensures.ok
    ∙ ap (λ s. effected_all (files_in t.files) (timed_effects s)) c.as_slice-2.ensures.value)
    clock refl
    (subst (λ s. NotEarlier t.clock (timed_effects s)) (sym are) (NotEarlier-timed t.clock deeds)) (search rules)
