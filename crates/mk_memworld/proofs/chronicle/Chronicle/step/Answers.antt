use Rattle.std.proofs.Common.{rules, ◌≡◌, ◌+◌, [], ◌∷◌, ◌++◌, refl, sym, ap, ◌∙◌, arith}
use Rattle.std.proofs.lemmas.Grind.{common_steps}
use Rattle.mk_world.specs.declared.history.Happening.TheVariants.{Step}
use Rattle.mk_commands.proofs.StepLemmas.{NotEarlier-taken, last_time-taken}
use Rattle.mk_memworld.proofs.ChronicleLemmas.{IsPresent-more}
use Rattle.mk_memworld.proofs.chronicle.Chronicle.step.Goals as goal

pub invariant_of-self-in-Ok : goal.invariant_of-self-in-Ok
invariant_of-self-in-Ok c =
    let t = c.self.inside in
    let ticket = c.args.ticket in
    let owner = c.unwrap.result.now.owner in
    let deed = c.args.deed.now in
    let time = t.clock + c.numbers_taken.result in
    let event = Step ticket owner deed time in
    let copied : c.push.new.self.items
    ≡ t.events.items ++ Step ticket owner c.in_ok-copy.copy time ∷ [] =
    grind (arith, common_steps) in
    let items : c.push.new.self.items ≡ t.events.items ++ event ∷ [] =
    copied ∙ ap (λ d. t.events.items ++ Step ticket owner d time ∷ []) c.in_ok-copy.ensures in
    IsPresent-more t _ event c.self.invariant refl items c.in-Ok.ensures.files
    (sym (last_time-taken t.clock c.numbers_taken.result deed c.numbers_taken.ensures))
    c.in-Ok.ensures.children (NotEarlier-taken t.clock c.numbers_taken.result deed c.numbers_taken.ensures)
    (search rules)
