use Rattle.std.proofs.Common.{rules, ◌≡◌, [], ◌∷◌, ◌++◌, refl, sym, ap, ◌∙◌, arith}
use Rattle.std.proofs.lemmas.Grind.{common_steps}
use Rattle.mk_memworld.proofs.ChronicleLemmas.{IsPresent-more}
use Rattle.mk_world.specs.declared.history.Child.{Child}
use Rattle.mk_world.specs.declared.history.Happening.TheVariants.{Start}
use Rattle.mk_memworld.proofs.chronicle.Chronicle.start.Goals as goal

pub invariant_of-self-2 : goal.invariant_of-self-2
invariant_of-self-2 c =
    let event = Start c.args.ticket c.args.owner c.in_ok-cmd.cmd in
    let items : c.push-2.new.self.items ≡ c.self.inside.events.items ++ event ∷ [] =
    grind (arith, common_steps) in
    let more : c.push.new.self.items ≡ c.self.inside.children.items ++ c.in_ok-child.child ∷ [] =
    grind (arith, common_steps) in
    IsPresent-more c.self.inside _ event c.self.invariant refl items refl refl
    (more ∙ ap (λ (one : Child). c.self.inside.children.items ++ one ∷ []) (c.in_ok-child.ensures
    ∙ ap (λ cmd. record { ticket = c.args.ticket; owner = c.args.owner; cmd = cmd; deeds = [] })
    (sym c.in_ok-cmd.ensures)))
    tt (search rules)
