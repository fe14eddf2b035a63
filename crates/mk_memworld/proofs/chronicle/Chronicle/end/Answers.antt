use Rattle.std.proofs.Common.{rules, ◌≡◌, ◌+◌, [], ◌∷◌, ◌++◌, Some, IsSomeAnd, refl, sym, ap, ◌∙◌, subst, arith}
use Rattle.std.proofs.lemmas.Grind.{common_steps}
use Rattle.std.specs.Option.{option_copied}
use Rattle.mk_world.specs.History.{child_in, effected_all, last_time, state_of, timed_effects, without_child}
use Rattle.mk_world.specs.declared.history.Happening.TheVariants.{End}
use Rattle.mk_world.specs.declared.history.History.{History}
use Rattle.mk_commands.specs.Clock.{numbers, timed}
use Rattle.mk_commands.specs.Files.{files_in}
use Rattle.mk_memworld.specs.Chronicle.{told, with_events}
use Rattle.mk_memworld.specs.Endings.{steps_of}
use Rattle.mk_world.proofs.ChildLemmas.{child_in-ticket}
use Rattle.mk_commands.proofs.TimeLemmas.{last_time-timed}
use Rattle.mk_memworld.proofs.ChronicleLemmas.{IsPresent-events}
use Rattle.mk_memworld.proofs.EndingLemmas.{AfterEnd-is}
use Rattle.mk_memworld.proofs.chronicle.Chronicle.end.Goals as goal

pub invariant_of-self-2 : goal.invariant_of-self-2
invariant_of-self-2 c =
    let t = c.self.inside in
    let ticket = c.args.ticket in
    let child = c.unwrap-child.result.now in
    let deeds = c.args.deeds.now in
    let steps = c.in_ok-timed.timed in
    let events = steps_of child steps ++ End child.ticket child.owner ∷ [] in
    let after = AfterEnd-is (state_of (told t)) child steps in
    let held : child_in t.children.items ticket ≡ Some child =
    ap (λ cs. child_in cs ticket) (sym c.deref.ensures.value)
    ∙ sym c.find.ensures ∙ ap option_copied c.unwrap-child.ensures in
    let named = child_in-ticket ticket t.children.items child held in
    let are : steps ≡ timed t.clock deeds =
    c.in_ok-timed.ensures ∙ ap (timed t.clock) c.as_slice.ensures.value in
    let added : c.in_ok-events.events.items ≡ events =
    c.in_ok-events.ensures
    ∙ ap (λ s. steps_of child s ++ End child.ticket child.owner ∷ []) c.as_slice-2.ensures.value in
    let longer : c.append.new.self.items ≡ t.events.items ++ c.in_ok-events.events.items =
    grind (arith, common_steps) in
    let clock : t.clock + c.all_taken.result ≡ last_time t.clock (timed_effects steps) =
    ap (λ n. t.clock + n) (c.all_taken.ensures ∙ ap numbers c.as_slice-4.ensures.value)
    ∙ sym (last_time-timed t.clock deeds)
    ∙ ap (λ s. last_time t.clock (timed_effects s)) (sym are) in
    IsPresent-events t _ events c.self.invariant refl
    (longer ∙ ap (λ l. t.events.items ++ l) added)
    (c.in_ok-apply_all.ensures.ok
    ∙ ap (λ s. effected_all (files_in t.files) (timed_effects s)) c.as_slice-3.ensures.value
    ∙ ap (λ f. effected_all f (timed_effects steps)) c.self.invariant.files ∙ after.files)
    (clock ∙ ap (λ n. last_time n (timed_effects steps)) c.self.invariant.clock ∙ after.clock)
    (c.take_child.ensures.others
    ∙ ap (λ one. without_child one t.children.items) (sym named)
    ∙ ap (without_child child.ticket) c.self.invariant.children ∙ after.children)
    (let within = c.self.invariant.stamped in
    let same = after.stamped in omega (arith, within, same)) (search rules)

pub returns-clause-ok : goal.returns-clause-ok
returns-clause-ok c =
    let t = c.self.inside in
    let old = c.args.self.now in
    let ticket = c.args.ticket in
    let child = c.unwrap-child.result.now in
    let deeds = c.args.deeds.now in
    let steps = c.in_ok-timed.timed in
    let end = End child.ticket child.owner in
    let held : child_in (state_of old).children ticket ≡ Some child =
    ap (λ cs. child_in cs ticket) (sym (c.deref.ensures.value ∙ c.self.invariant.children
    ∙ ap (λ (h : History). (state_of h).children) c.self.view_is))
    ∙ sym c.find.ensures ∙ ap option_copied c.unwrap-child.ensures in
    let are : steps ≡ timed (state_of old).clock deeds =
    c.in_ok-timed.ensures ∙ ap (timed t.clock) c.as_slice.ensures.value
    ∙ ap (λ n. timed n deeds) (c.self.invariant.clock
    ∙ ap (λ (h : History). (state_of h).clock) c.self.view_is) in
    let added : c.in_ok-events.events.items ≡ steps_of child steps ++ end ∷ [] =
    c.in_ok-events.ensures
    ∙ ap (λ s. steps_of child s ++ end ∷ []) c.as_slice-2.ensures.value in
    let longer : c.append.new.self.items ≡ t.events.items ++ c.in_ok-events.events.items =
    grind (arith, common_steps) in
    let new : History = record { base = t.base; events = c.append.new.self.items } in
    subst (λ found. IsSomeAnd found (λ one. new ≡ with_events old
    (steps_of one (timed (state_of old).clock deeds) ++ End one.ticket one.owner ∷ [])))
    (sym held)
    ((λ i. record { base = t.base; events = longer i })
    ∙ ap (λ l. with_events (told t) l) added
    ∙ ap (λ h. with_events h (steps_of child steps ++ end ∷ [])) c.self.view_is
    ∙ ap (λ s. with_events old (steps_of child s ++ end ∷ [])) are)
