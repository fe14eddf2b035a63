use Rattle.std.proofs.Common.{rules, ◌≡◌, ◌≤◌, [], ◌∷◌, ◌++◌, refl, sym, ◌∙◌, ap, subst, arith}
use Rattle.std.proofs.lemmas.Grind.{common_steps}
use Rattle.mk_world.specs.History.{state_of}
use Rattle.mk_world.specs.declared.history.History.{History}
use Rattle.mk_memworld.specs.Writes.{event_of}
use Rattle.mk_memworld.proofs.WriteLemmas.{IsPresent-write}
use Rattle.mk_memworld.proofs.chronicle.Chronicle.write.Goals as goal

pub invariant_of-self-2 : goal.invariant_of-self-2
invariant_of-self-2 c =
    let clock : c.self.inside.clock ≡ (state_of c.args.self.now).clock =
    c.self.invariant.clock ∙ ap (λ (h : History). (state_of h).clock) c.self.view_is in
    let later : c.self.inside.clock ≤ c.args.time = subst (λ n. n ≤ c.args.time) (sym clock) c.requires in
    let event = event_of c.args.writing c.in_ok-copy.copy c.in_ok-text.text c.args.time in
    let items : c.push.new.self.items ≡ c.self.inside.events.items ++ event ∷ [] =
    grind (arith, common_steps) in
    IsPresent-write c.self.inside _ c.args.writing c.args.path.now c.in_ok-copy.copy
    c.args.bytes.now c.in_ok-text.text c.args.time c.self.invariant c.in_ok-copy.ensures
    c.in_ok-text.ensures items c.in_ok-write.ensures.ok (search rules) refl refl later refl
