use Rattle.std.proofs.Common.{rules, ◌≡◌, ◌<◌, List, [], ◌∷◌, ◌++◌, length, refl, sym, ◌∙◌, subst, arith}
use Rattle.std.proofs.lemmas.Grind.{common_steps}
use Rattle.mk_world.specs.History.{state_of}
use Rattle.mk_memworld.proofs.ChronicleLemmas.{IsPresent-more}
use Rattle.mk_world.specs.declared.history.Child.{Child}
use Rattle.mk_world.specs.declared.history.Happening.TheVariants.{Left}
use Rattle.mk_world.specs.declared.history.History.{History}
use Rattle.mk_memworld.proofs.ChildLemmas.{without_child-read}
use Rattle.mk_memworld.proofs.chronicle.Chronicle.leave.Goals as goal

pub invariant_of-self : goal.invariant_of-self
invariant_of-self c =
    let child = c.remove-child.result in
    let event = Left child.ticket child.owner in
    let items : c.push.new.self.items ≡ c.self.inside.events.items ++ event ∷ [] =
    grind (arith, common_steps) in
    let held : 0 < length (state_of c.args.self.now).children = c.requires in
    let some : 0 < length c.self.inside.children.items =
    subst (λ (cs : List Child). 0 < length cs) (sym c.self.invariant.children)
    (subst (λ (h : History). 0 < length (state_of h).children) (sym c.self.view_is) held) in
    IsPresent-more c.self.inside _ event c.self.invariant refl items refl refl
    (c.remove-child.ensures.items
    ∙ without_child-read c.self.inside.children.items child some c.remove-child.ensures.value)
    tt (search rules)
