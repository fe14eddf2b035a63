-- The state at the end of a history, after one event more.
use Rattle.std.proofs.Common.{◌≡◌, ◌+◌, ◌≤◌, List, [], ◌∷◌, ◌++◌, vec_len, vec_capacity, sym, ◌∙◌, ap, subst}
use Rattle.mk_world.specs.History.{NotEarlier, State, after, after_all, children_after, effected_all, effects}
use Rattle.mk_world.specs.History.{first_state, last_time, stamped_after, state_of}
use Rattle.mk_world.specs.declared.history.Happening.{Happening}
use Rattle.mk_world.specs.declared.history.History.{History}
use Rattle.mk_world.proofs.CallLemmas.{after_all-append}
use Rattle.mk_world.proofs.ChangeLemmas.{stamped-within}
use Rattle.mk_commands.specs.Files.{files_in}
use Rattle.mk_memworld.specs.Chronicle.{IsPresent, told, with_event, with_events}
use Rattle.mk_memworld.specs.declared.chronicle.Chronicle.TheInside.{Inside}

pub state_of-with_event : (old new : History) (event : Happening) → new ≡ with_event old event
    → state_of new ≡ after (state_of old) event
state_of-with_event old new event is =
    ap state_of is ∙ after_all-append (first_state old.base) old.events (event ∷ [])

-- what is kept stays the present state, where it changes as these events say
pub IsPresent-events : (t u : Inside) (events : List Happening) → IsPresent t → u.base ≡ t.base
    → u.events.items ≡ t.events.items ++ events
    → files_in u.files ≡ (after_all (state_of (told t)) events).files
    → u.clock ≡ (after_all (state_of (told t)) events).clock
    → u.children.items ≡ (after_all (state_of (told t)) events).children
    → (after_all (state_of (told t)) events).stamped ≤ u.clock
    → vec_len u.events + vec_len u.children ≤ vec_capacity u.events → IsPresent u
IsPresent-events t u events present base longer files clock children stamped room =
    let same : told u ≡ with_events (told t) events =
    λ i. record { base = base i; events = longer i } in
    let now : state_of (told u) ≡ after_all (state_of (told t)) events =
    ap state_of same ∙ after_all-append (first_state t.base) t.events.items events in record {
      files = files ∙ ap (λ (s : State). s.files) (sym now);
      clock = clock ∙ ap (λ (s : State). s.clock) (sym now);
      children = children ∙ ap (λ (s : State). s.children) (sym now);
      stamped = subst (λ (s : State). s.stamped ≤ u.clock) (sym now) stamped;
      room = room;
    }

told_more : (t u : Inside) (event : Happening) → u.base ≡ t.base
    → u.events.items ≡ t.events.items ++ event ∷ [] → told u ≡ with_event (told t) event
told_more t u event base events = λ i. record { base = base i; events = events i }

-- what is kept stays the present state, where it changes as the event says
pub IsPresent-more : (t u : Inside) (event : Happening) → IsPresent t → u.base ≡ t.base
    → u.events.items ≡ t.events.items ++ event ∷ []
    → files_in u.files ≡ effected_all (files_in t.files) (effects event)
    → u.clock ≡ last_time t.clock (effects event)
    → u.children.items ≡ children_after t.children.items event
    → NotEarlier t.clock (effects event)
    → vec_len u.events + vec_len u.children ≤ vec_capacity u.events → IsPresent u
IsPresent-more t u event present base events files clock children rises room =
    let now : state_of (told u) ≡ after (state_of (told t)) event =
    state_of-with_event (told t) (told u) event (told_more t u event base events) in record {
      files = files ∙ ap (λ f. effected_all f (effects event)) present.files
          ∙ ap (λ (s : State). s.files) (sym now);
      clock = clock ∙ ap (λ n. last_time n (effects event)) present.clock
          ∙ ap (λ (s : State). s.clock) (sym now);
      children = children ∙ ap (λ cs. children_after cs event) present.children
          ∙ ap (λ (s : State). s.children) (sym now);
      stamped = subst (λ (s : State). s.stamped ≤ u.clock) (sym now)
          (subst (λ n. stamped_after (state_of (told t)).stamped event ≤ n) (sym clock)
          (stamped-within t.clock (state_of (told t)).stamped event rises present.stamped));
      room = room;
    }

-- what is kept stays the present state, where nothing of it changes
pub IsPresent-same : (t u : Inside) → IsPresent t → u.base ≡ t.base
    → u.events.items ≡ t.events.items → files_in u.files ≡ files_in t.files → u.clock ≡ t.clock
    → u.children.items ≡ t.children.items
    → vec_len u.events + vec_len u.children ≤ vec_capacity u.events → IsPresent u
IsPresent-same t u present base events files clock children room =
    let same : told u ≡ told t = λ i. record { base = base i; events = events i } in
    let now : state_of (told t) ≡ state_of (told u) = ap state_of (sym same) in record {
      files = files ∙ present.files ∙ ap (λ (s : State). s.files) now;
      clock = clock ∙ present.clock ∙ ap (λ (s : State). s.clock) now;
      children = children ∙ present.children ∙ ap (λ (s : State). s.children) now;
      stamped = subst (λ (s : State). s.stamped ≤ u.clock) now
          (subst (λ n. (state_of (told t)).stamped ≤ n) (sym clock) present.stamped);
      room = room;
    }
