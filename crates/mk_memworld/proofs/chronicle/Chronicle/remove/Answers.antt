use Rattle.std.proofs.Common.{rules, ◌≡◌, ◌+◌, None, [], ◌∷◌, ◌++◌, refl, sym, ap, ◌∙◌, arith}
use Rattle.std.proofs.lemmas.Grind.{common_steps}
use Rattle.mk_world.specs.History.{effected}
use Rattle.mk_world.specs.declared.history.Happening.TheVariants.{Gone}
use Rattle.mk_commands.specs.Files.{files_in}
use Rattle.mk_memworld.proofs.ChronicleLemmas.{IsPresent-more}
use Rattle.mk_memworld.proofs.chronicle.Chronicle.remove.Goals as goal

pub invariant_of-self-2 : goal.invariant_of-self-2
invariant_of-self-2 c =
    let files = files_in c.self.inside.files in
    let time = c.self.inside.clock + 1 in
    let event = Gone c.in_ok-copy.copy time in
    let items : c.push.new.self.items ≡ c.self.inside.events.items ++ event ∷ [] =
    grind (arith, common_steps) in
    IsPresent-more c.self.inside _ event c.self.invariant refl items
    (c.remove.ensures.files time ∙ ap (λ p. effected files
    (record { path = p; bytes = None; time = time })) (sym c.in_ok-copy.ensures))
    refl refl (omega arith, tt) (search rules)
