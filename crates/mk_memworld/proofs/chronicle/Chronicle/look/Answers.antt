use Rattle.std.proofs.Common.{rules, ◌≡◌, [], ◌∷◌, ◌++◌, refl, arith}
use Rattle.std.proofs.lemmas.Grind.{common_steps}
use Rattle.mk_memworld.proofs.ChronicleLemmas.{IsPresent-more}
use Rattle.mk_world.specs.declared.history.Happening.TheVariants.{Look}
use Rattle.mk_memworld.proofs.chronicle.Chronicle.look.Goals as goal

pub invariant_of-self-2 : goal.invariant_of-self-2
invariant_of-self-2 c =
    let event = Look c.in_ok-path.path in
    let items : c.push.new.self.items ≡ c.self.inside.events.items ++ event ∷ [] =
    grind (arith, common_steps) in
    IsPresent-more c.self.inside _ event c.self.invariant refl items refl refl refl tt (search rules)
