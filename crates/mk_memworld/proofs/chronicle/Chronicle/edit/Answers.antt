use Rattle.std.proofs.Common.{rules, ◌≡◌, ◌+◌, Some, None, [], ◌∷◌, ◌++◌, refl, sym, ap, ◌∙◌, arith}
use Rattle.std.proofs.lemmas.Grind.{common_steps}
use Rattle.mk_world.specs.History.{effected}
use Rattle.mk_memworld.proofs.ChronicleLemmas.{IsPresent-more}
use Rattle.mk_world.specs.declared.history.Happening.TheVariants.{Edit}
use Rattle.mk_commands.specs.Files.{files_in}
use Rattle.mk_memworld.proofs.chronicle.Chronicle.edit.Goals as goal

pub invariant_of-self-in-None : goal.invariant_of-self-in-None
invariant_of-self-in-None c =
    let files = files_in c.self.inside.files in
    let time = c.self.inside.clock + 1 in
    let event = Edit c.in_ok-copy.copy None time in
    let items : c.push.new.self.items ≡ c.self.inside.events.items ++ event ∷ [] =
    grind (arith, common_steps) in
    IsPresent-more c.self.inside _ event c.self.invariant refl items
    (c.remove.ensures.files time ∙ ap (λ p. effected files
    (record { path = p; bytes = None; time = time })) (sym c.in_ok-copy.ensures))
    refl refl (omega arith, tt) (search rules)

pub invariant_of-self-in-Some : goal.invariant_of-self-in-Some
invariant_of-self-in-Some c =
    let files = files_in c.self.inside.files in
    let time = c.self.inside.clock + 1 in
    let text = c.in_ok-text-in-Some.text in
    let event = Edit c.in_ok-copy.copy (Some text) time in
    let items : c.push-in-Some.new.self.items ≡ c.self.inside.events.items ++ event ∷ [] =
    grind (arith, common_steps) in
    IsPresent-more c.self.inside _ event c.self.invariant refl items
    (c.in_ok-write-in-Some.ensures.ok
    ∙ ap (λ p. effected files
    (record { path = p; bytes = Some c.in-Some.bytes.now; time = time })) (sym c.in_ok-copy.ensures)
    ∙ ap (λ b. effected files
    (record { path = c.in_ok-copy.copy; bytes = Some b; time = time }))
    (sym c.in_ok-text-in-Some.ensures))
    refl refl (omega arith, tt) (search rules)
