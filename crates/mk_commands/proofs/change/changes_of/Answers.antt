use Rattle.std.proofs.Common.{◌≡◌, ◌∷◌, ◌++◌, [], take, sym, ◌∙◌, ap, arith}
use Rattle.std.proofs.lemmas.Grind.{common_steps}
use Rattle.mk_world.specs.Deeds.{changes}
use Rattle.mk_world.specs.History.{at_time, effected_all, timed_effects}
use Rattle.mk_world.proofs.ChangeLemmas.{effected_all-append}
use Rattle.mk_commands.specs.Changes.{changed_all}
use Rattle.mk_commands.proofs.TimeLemmas.{changed_all-append, timed_effects-more}
use Rattle.mk_commands.proofs.change.changes_of.Goals as goal

pub loop-step-preserved : goal.loop-step-preserved
loop-step-preserved c =
    let i = c.loop-step.step-index in
    let steps = c.args.steps.now in
    let step = c.step-item.result in
    let done = c.loop-step.changes.items in
    let change = c.in_ok-change_of.field-0 in
    let pushed : c.push.new.self.items ≡ done ++ change ∷ [] = grind (arith, common_steps) in
    let more = timed_effects-more steps i step c.loop-step-test.true c.step-item.is in
    let own = at_time step.time (changes step.deed) in record {
      effects = λ files.
          ap (changed_all files) pushed ∙ changed_all-append files done (change ∷ [])
          ∙ c.in_ok-change_of.ensures (changed_all files done)
          ∙ ap (λ f. effected_all f own) (c.loop-step.invariant.effects files)
          ∙ sym (effected_all-append files (timed_effects (take i steps)) own) ∙ ap (effected_all files) (sym more);
      count = grind (arith, common_steps);
    }
