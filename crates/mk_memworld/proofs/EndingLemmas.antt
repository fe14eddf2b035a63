-- How a child is taken in: its remaining steps and its end, as events that may happen.
use Rattle.std.proofs.Common.{◌≡◌, ℕ, suc, zero, ◌+◌, ◌<◌, ◌≤◌, List, [], ◌∷◌, ◌++◌, Option, Some, None, IsSomeAnd, length, map, refl, sym, ◌∙◌, ap, subst, arith, append_assoc, length-append}
use Rattle.std.proofs.lemmas.List.{append-nil, map-append}
use Rattle.std.specs.Option.{option_map}
use Rattle.mk_world.proofs.RecordLemmas.{exact_records_tell}
use Rattle.mk_world.specs.Calls.{AddsEvents, EndsAs, IsTaken, OwnEnd}
use Rattle.mk_world.specs.Deeds.{IsRight, Meets, Store, after_deed, changes}
use Rattle.mk_world.specs.History.{State, May, MayEnd, after, after_all, at_time, child_in, contents, effected_all, last_time, state_of, stepped, tickets_of, timed_effects, without_child}
use Rattle.mk_world.specs.Talks.{Doing, IsOver, Talks, answer, deed_on, does_in, with_deed}
use Rattle.mk_world.specs.declared.command.Cmd.{Cmd}
use Rattle.mk_world.specs.declared.history.Child.{Child}
use Rattle.mk_world.specs.declared.history.Happening.{Happening}
use Rattle.mk_world.specs.declared.history.Happening.TheVariants.{Step, End}
use Rattle.mk_world.specs.declared.history.History.{History}
use Rattle.mk_world.specs.declared.history.Timed.{Timed}
use Rattle.mk_world.specs.declared.step.Answer.{Answer}
use Rattle.mk_world.specs.declared.step.Deed.{Deed}
use Rattle.mk_world.specs.declared.step.Ended.{Ended}
use Rattle.mk_world.specs.declared.step.Next.TheVariants.{Over}
use Rattle.mk_world.proofs.CallLemmas.{adds_steps_own, after_all-append, state_of-run}
use Rattle.mk_world.proofs.ChangeLemmas.{contents-effected_all, effected_all-append, last_time-append}
use Rattle.mk_world.proofs.TalkLemmas.{deed_at-told}
use Rattle.mk_commands.specs.Clock.{numbers, time_of, timed}
use Rattle.mk_commands.specs.Language.{most_answers}
use Rattle.mk_commands.specs.Meaning.{language}
use Rattle.mk_memworld.specs.Children.{without_first}
use Rattle.mk_memworld.specs.Chronicle.{with_event, with_events}
use Rattle.mk_memworld.specs.Endings.{ended_as, ended_by, numbers_in, numbers_left, rest_of, steps_of, to_end, told_by, told_of}
use Rattle.mk_memworld.specs.Running.{AddsSteps, IsRest, IsRestOf}
use Rattle.mk_memworld.proofs.ChildLemmas.{tickets_of-without}
use Rattle.mk_world.proofs.ChildLemmas.{child_in-stepped, child_in-ticket, tickets_of-stepped, without_child-stepped}
use Rattle.mk_commands.proofs.RestLemmas.{asked_short}
use Rattle.mk_commands.proofs.StepLemmas.{last_time-step}
use Rattle.mk_memworld.proofs.ChronicleLemmas.{state_of-with_event}
use Rattle.mk_memworld.proofs.RunningLemmas.{AddsSteps-more, AddsSteps-none, AddsSteps-then, lawful_by, longer_by, may_step, run_of_steps}

-- A command asks no more often than it may.
talks-within : (cmd : Cmd) (seen : List Answer) (deed : Deed) (deeds : List Deed) (status : ℕ)
    (output : List ℕ) → Talks language.next cmd seen (deed ∷ deeds) status output
    → length seen + suc (length deeds) ≤ most_answers cmd
talks-within cmd seen deed [] status output talks =
    let short = asked_short cmd seen talks.0 talks.2 in omega arith
talks-within cmd seen deed (next ∷ deeds) status output talks =
    let rest = talks-within cmd (seen ++ answer deed ∷ []) next deeds status output talks.4 in
    let longer = length-append seen (answer deed ∷ []) in omega arith

talks-few : (cmd : Cmd) (seen : List Answer) (deeds : List Deed) (status : ℕ) (output : List ℕ)
    → Talks language.next cmd seen deeds status output → length deeds < suc (most_answers cmd)
talks-few cmd seen [] status output talks = omega arith
talks-few cmd seen (deed ∷ deeds) status output talks =
    let few = talks-within cmd seen deed deeds status output talks in omega arith

-- a doing is what is computed, where enough requests are allowed
computed : (most : ℕ) (cmd : Cmd) (seen : List Answer) (store : Store) (deeds : List Deed)
    (status : ℕ) (output : List ℕ) → Talks language.next cmd seen deeds status output
    → Meets store deeds → length deeds < most
    → does_in most language.next cmd seen store
    ≡ record { deeds = deeds; status = status; output = output }
computed zero cmd seen store deeds status output talks meets few = absurd (omega arith)
computed (suc most) cmd seen store [] status output talks meets few = rw talks refl
computed (suc most) cmd seen store (deed ∷ deeds) status output talks meets few =
    let first : deed ≡ deed_on talks.0 store =
    talks.3 ∙ deed_at-told store talks.0 talks.1 (subst (IsRight store) talks.3 meets.0) in
    let rest = computed most cmd (seen ++ answer deed ∷ []) (after_deed store deed) deeds status
    output talks.4 meets.1 (omega arith) in
    rw talks.2 (subst (λ d. with_deed d (does_in most language.next cmd (seen ++ answer d ∷ [])
    (after_deed store d))
    ≡ record { deeds = deed ∷ deeds; status = status; output = output }) first
    (ap (with_deed deed) rest))

-- what a child still does is one thing
pub rest_of-is : (state : State) (child : Child) (rest : Doing) → IsRestOf state rest child
    → rest_of state child ≡ rest
rest_of-is state child rest is =
    let seen = map answer child.deeds in
    computed (suc (most_answers child.cmd)) child.cmd seen (contents state.files) rest.deeds
    rest.status rest.output is.0 is.1
    (talks-few child.cmd seen rest.deeds rest.status rest.output is.0)

numbers_as : (state : State) (rest : Doing) (child : Option Child)
    → IsSomeAnd child (IsRestOf state rest) → numbers_in state child ≡ numbers rest.deeds
numbers_as state rest None is = absurd is
numbers_as state rest (Some child) is =
    ap (λ (d : Doing). numbers d.deeds) (rest_of-is state child rest is)

pub numbers_left-is : (state : State) (ticket : ℕ) (rest : Doing) → IsRest state ticket rest
    → numbers_left state (Some ticket) ≡ numbers rest.deeds
numbers_left-is state ticket rest is =
    numbers_as state rest (child_in state.children ticket) is

-- how things stand after steps of a child
files-steps : (state : State) (child : Child) (steps : List Timed)
    → (after_all state (steps_of child steps)).files
    ≡ effected_all state.files (timed_effects steps)
files-steps state child [] = refl
files-steps state child (step ∷ steps) =
    let event = Step child.ticket child.owner step.deed step.time in
    files-steps (after state event) child steps
    ∙ sym (effected_all-append state.files (at_time step.time (changes step.deed))
    (timed_effects steps))

clock-steps : (state : State) (child : Child) (steps : List Timed)
    → (after_all state (steps_of child steps)).clock
    ≡ last_time state.clock (timed_effects steps)
clock-steps state child [] = refl
clock-steps state child (step ∷ steps) =
    let event = Step child.ticket child.owner step.deed step.time in
    clock-steps (after state event) child steps
    ∙ sym (last_time-append state.clock (at_time step.time (changes step.deed))
    (timed_effects steps))

others-steps : (state : State) (child : Child) (steps : List Timed)
    → without_child child.ticket (after_all state (steps_of child steps)).children
    ≡ without_child child.ticket state.children
others-steps state child [] = refl
others-steps state child (step ∷ steps) =
    let event = Step child.ticket child.owner step.deed step.time in
    others-steps (after state event) child steps
    ∙ without_child-stepped child.ticket step.deed state.children

stamped-steps : (state : State) (child : Child) (steps : List Timed)
    → (after_all state (steps_of child steps)).stamped ≡ state.stamped
stamped-steps state child [] = refl
stamped-steps state child (step ∷ steps) =
    stamped-steps (after state (Step child.ticket child.owner step.deed step.time)) child steps

-- how things stand after steps of a child and its end
pub record AfterEnd (state new : State) (child : Child) (steps : List Timed) : Type 0 where
  pub files : effected_all state.files (timed_effects steps) ≡ new.files
  pub clock : last_time state.clock (timed_effects steps) ≡ new.clock
  pub children : without_child child.ticket state.children ≡ new.children
  pub stamped : new.stamped ≡ state.stamped

pub AfterEnd-is : (state : State) (child : Child) (steps : List Timed)
    → AfterEnd state
    (after_all state (steps_of child steps ++ End child.ticket child.owner ∷ [])) child steps
AfterEnd-is state child steps =
    let all = steps_of child steps in
    let now = sym (after_all-append state all (End child.ticket child.owner ∷ [])) in record {
      files = sym (files-steps state child steps) ∙ ap (λ (s : State). s.files) now;
      clock = sym (clock-steps state child steps) ∙ ap (λ (s : State). s.clock) now;
      children = sym (others-steps state child steps) ∙ ap (λ (s : State). s.children) now;
      stamped = ap (λ (s : State). s.stamped) (sym now) ∙ stamped-steps state child steps;
    }

-- a history is the one after a child was taken in
ended_if : (old new : History) (child : Child) (rest : Doing) (found : Option Child)
    → found ≡ Some child → IsSomeAnd found (IsRestOf (state_of old) rest)
    → new ≡ with_events old (to_end (state_of old) child rest) → new ≡ ended_as old found
ended_if old new child rest None held is events = absurd is
ended_if old new child rest (Some one) held is events =
    let same : one ≡ child = cc in
    let whole = rest_of-is (state_of old) one rest is in
    events ∙ ap (λ c. with_events old (to_end (state_of old) c rest)) (sym same)
    ∙ ap (λ d. with_events old (to_end (state_of old) one d)) (sym whole)

pub ended_by-is : (old new : History) (ticket : ℕ) (child : Child) (rest : Doing)
    → child_in (state_of old).children ticket ≡ Some child → IsRest (state_of old) ticket rest
    → new ≡ with_events old (to_end (state_of old) child rest) → new ≡ ended_by old ticket
ended_by-is old new ticket child rest held is events =
    ended_if old new child rest (child_in (state_of old).children ticket) held is events

-- what is told of a child that was taken in
pub told_by-is : (old : History) (ticket : ℕ) (child : Child) (rest : Doing) (ended : Ended)
    → child_in (state_of old).children ticket ≡ Some child → IsRest (state_of old) ticket rest
    → ended ≡ told_of child rest → Some ended ≡ told_by old ticket
told_by-is old ticket child rest ended held is told =
    let here : IsRestOf (state_of old) rest child =
    subst (λ found. IsSomeAnd found (IsRestOf (state_of old) rest)) held is in
    ap Some (told ∙ ap (told_of child) (sym (rest_of-is (state_of old) child rest here)))
    ∙ ap (option_map (λ c. told_of c (rest_of (state_of old) c))) (sym held)

-- a child has done all its steps
record DidAll (old new : History) (ticket : ℕ) (child : Child) (status : ℕ) (output : List ℕ)
    : Type 0 where
  pub steps : AddsSteps old new
  pub tickets : tickets_of (state_of new).children ≡ tickets_of (state_of old).children
  pub held : child_in (state_of new).children ticket ≡ Some child
  pub over : language.next child.cmd (map answer child.deeds) ≡ Over status output

did_none : (history : History) (child : Child) (status : ℕ) (output : List ℕ)
    → child_in (state_of history).children child.ticket ≡ Some child
    → language.next child.cmd (map answer child.deeds) ≡ Over status output
    → DidAll history (with_events history []) child.ticket
    (record child { deeds = child.deeds ++ [] }) status output
did_none history child status output held over =
    let same : with_events history [] ≡ history =
    λ i. record { base = history.base; events = append-nil history.events i } in
    subst (λ h. DidAll history h child.ticket (record child { deeds = child.deeds ++ [] }) status
    output) (sym same) (record {
      steps = AddsSteps-none history;
      tickets = refl;
      held = held
          ∙ ap (λ deeds. Some (record child { deeds = deeds })) (sym (append-nil child.deeds));
      over = ap (λ deeds. language.next child.cmd (map answer deeds)) (append-nil child.deeds)
          ∙ over;
    })

module _ (history : History) (child : Child) (deed : Deed) (deeds : List Deed) (status : ℕ)
    (output : List ℕ) (held : child_in (state_of history).children child.ticket ≡ Some child)
    (rest : IsRestOf (state_of history)
    (record { deeds = deed ∷ deeds; status = status; output = output }) child) where
  abbrev time : ℕ
  time = time_of (state_of history).clock deed

  abbrev event : Happening
  event = Step child.ticket child.owner deed time

  abbrev mid : History
  mid = with_event history event

  abbrev later : Child
  later = record child { deeds = child.deeds ++ deed ∷ [] }

  now : state_of mid ≡ after (state_of history) event
  now = state_of-with_event history mid event refl

  children_now : (state_of mid).children ≡ stepped child.ticket deed (state_of history).children
  children_now = ap (λ (s : State). s.children) now

  held_now : child_in (state_of mid).children child.ticket ≡ Some later
  held_now = ap (λ cs. child_in cs child.ticket) children_now
      ∙ child_in-stepped child.ticket deed (state_of history).children child held

  files_now : contents (state_of mid).files ≡ after_deed (contents (state_of history).files) deed
  files_now = ap (λ (s : State). contents s.files) now
      ∙ contents-effected_all (state_of history).files (changes deed) time

  clock_now : (state_of mid).clock ≡ time
  clock_now = ap (λ (s : State). s.clock) now ∙ last_time-step (state_of history).clock deed

  rest_now : IsRestOf (state_of mid)
      (record { deeds = deeds; status = status; output = output }) later
  rest_now = (
    subst (λ seen. Talks language.next child.cmd seen deeds status output)
        (sym (map-append answer child.deeds (deed ∷ []))) rest.0.4,
    subst (λ store. Meets store deeds) (sym files_now) rest.1.1,
  )

  steps_now : AddsSteps history mid
  steps_now = AddsSteps-more child.ticket child.owner deed time (AddsSteps-none history) refl
      (may_step history child.ticket deed child held (record {
        owned = refl;
        right = rest.1.0;
        request = rest.0.0;
        stands = rest.0.1;
        asked = rest.0.2;
        done = rest.0.3;
      }))

  tickets_now : tickets_of (state_of mid).children ≡ tickets_of (state_of history).children
  tickets_now = ap tickets_of children_now
      ∙ tickets_of-stepped child.ticket deed (state_of history).children

  whole : with_events mid (steps_of child (timed (state_of mid).clock deeds))
      ≡ with_events history (steps_of child (timed (state_of history).clock (deed ∷ deeds)))
  whole = ap (λ n. with_events mid (steps_of child (timed n deeds))) clock_now
      ∙ (λ i. record {
        base = history.base;
        events = append_assoc history.events (event ∷ [])
            (steps_of child (timed time deeds)) i;
      })

  did_more : DidAll mid (with_events mid (steps_of child (timed (state_of mid).clock deeds)))
      child.ticket (record later { deeds = later.deeds ++ deeds }) status output
      → DidAll history
      (with_events history (steps_of child (timed (state_of history).clock (deed ∷ deeds))))
      child.ticket (record child { deeds = child.deeds ++ deed ∷ deeds }) status output
  did_more all =
      let deeds_are = append_assoc child.deeds (deed ∷ []) deeds in
      subst (λ h. DidAll history h child.ticket
      (record child { deeds = child.deeds ++ deed ∷ deeds }) status output) whole (record {
        steps = AddsSteps-then steps_now all.steps;
        tickets = all.tickets ∙ tickets_now;
        held = all.held ∙ ap (λ ds. Some (record child { deeds = ds })) deeds_are;
        over = ap (λ ds. language.next child.cmd (map answer ds)) (sym deeds_are) ∙ all.over;
      })

did_all : (history : History) (child : Child) (deeds : List Deed) (status : ℕ) (output : List ℕ)
    → child_in (state_of history).children child.ticket ≡ Some child
    → IsRestOf (state_of history)
    (record { deeds = deeds; status = status; output = output }) child
    → DidAll history (with_events history (steps_of child (timed (state_of history).clock deeds)))
    child.ticket (record child { deeds = child.deeds ++ deeds }) status output
did_all history child [] status output held rest =
    did_none history child status output held rest.0
did_all history child (deed ∷ deeds) status output held rest =
    did_more history child deed deeds status output held rest
    (did_all (mid history child deed deeds status output held rest)
    (later history child deed deeds status output held rest) deeds status output
    (held_now history child deed deeds status output held rest)
    (rest_now history child deed deeds status output held rest))

-- a child was taken in behind some steps
pub record Taken (old mid new : History) (ticket : ℕ) (ended : Ended) : Type 0 where
  pub adds : AddsEvents language (OwnEnd language ended) old new
  pub named : ended.ticket.0 ≡ ticket
  pub tickets : tickets_of (state_of new).children
      ≡ without_first ticket (tickets_of (state_of mid).children)

taken_as : (old mid new : History) (child : Child) (ended : Ended)
    → child_in (state_of mid).children child.ticket ≡ Some child → AddsSteps old mid
    → new ≡ with_event mid (End child.ticket child.owner) → ended.ticket.0 ≡ child.ticket
    → EndsAs language ended child → Taken old mid new child.ticket ended
taken_as old mid new child ended held adds is named ends =
    let event = End child.ticket child.owner in
    let there : child_in (after_all (state_of old) adds.events).children ended.ticket.0
    ≡ Some child =
    ap (λ (s : State). child_in s.children ended.ticket.0)
    (sym (state_of-run (run_of_steps adds)))
    ∙ ap (child_in (state_of mid).children) named ∙ held in
    let may : May language (state_of mid) event = (
      tt,
      subst (MayEnd language.next child.owner) (sym held)
          (refl, subst IsOver (sym ends.over) tt),
    ) in record {
      adds = adds_steps_own language (OwnEnd language ended) old new adds.events (event ∷ [])
          adds.steps (ap (λ (h : History). h.base) is ∙ adds.base)
          (longer_by adds event is) (lawful_by adds event may)
          (subst (λ o. IsTaken language ended o (event ∷ [])) (sym there) (refl, ends));
      named = named;
      tickets = ap (λ (s : State). tickets_of s.children) (state_of-with_event mid new event is)
          ∙ tickets_of-without child.ticket (state_of mid).children;
    }

taken_if : (old mid new : History) (ticket : ℕ) (rest : Doing) (ended : Ended)
    (found : Option Child) → child_in (state_of mid).children ticket ≡ found → AddsSteps old mid
    → IsSomeAnd found (IsRestOf (state_of mid) rest) → new ≡ ended_as mid found
    → Some ended ≡ option_map (λ c. told_of c (rest_of (state_of mid) c)) found
    → Taken old mid new ticket ended
taken_if old mid new ticket rest ended None held adds is events told = absurd is
taken_if old mid new ticket rest ended (Some child) held adds is events told =
    let named = child_in-ticket ticket (state_of mid).children child held in
    let here : child_in (state_of mid).children child.ticket ≡ Some child =
    ap (child_in (state_of mid).children) named ∙ held in
    let only = rest_of-is (state_of mid) child rest is in
    let all = did_all mid child rest.deeds rest.status rest.output here is in
    let steps = steps_of child (timed (state_of mid).clock rest.deeds) in
    let last = with_events mid steps in
    let end = End child.ticket child.owner in
    let event : new ≡ with_event last end =
    events ∙ ap (λ d. with_events mid (to_end (state_of mid) child d)) only
    ∙ (λ i. record {
      base = mid.base;
      events = sym (append_assoc mid.events steps (end ∷ [])) i;
    }) in
    let same : told_of child (rest_of (state_of mid) child) ≡ told_of child rest =
    ap (told_of child) only in
    let answered : ended ≡ told_of child rest = cc in
    let later = record child { deeds = child.deeds ++ rest.deeds } in
    let taken = taken_as old last new later ended all.held (AddsSteps-then adds all.steps) event
    (ap (λ (e : Ended). e.ticket.0) answered)
    (subst (λ e. EndsAs language e later) (sym answered)
    (record { over = all.over; records = exact_records_tell later.deeds })) in
    subst (λ one. Taken old mid new one ended) named (record {
      adds = taken.adds;
      named = taken.named;
      tickets = taken.tickets ∙ ap (without_first child.ticket) all.tickets;
    })

pub Taken-ended_by : (old mid new : History) (ticket : ℕ) (rest : Doing) (ended : Ended)
    → AddsSteps old mid → IsRest (state_of mid) ticket rest → new ≡ ended_by mid ticket
    → Some ended ≡ told_by mid ticket → Taken old mid new ticket ended
Taken-ended_by old mid new ticket rest ended adds is events told =
    taken_if old mid new ticket rest ended (child_in (state_of mid).children ticket) refl adds is
    events told
