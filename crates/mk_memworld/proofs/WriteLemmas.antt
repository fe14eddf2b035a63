-- What a write of a whole file changes, and adds to the history.
use Rattle.std.proofs.Common.{◌≡◌, ℕ, ◌+◌, ◌<◌, ◌≤◌, List, [], ◌∷◌, ◌++◌, Option, Some, None, Result, Ok, Err, OnErr, take, drop, vec_len, vec_capacity, inl, inr, refl, sym, ◌∙◌, ap, subst, le_of_lt, lt_of_le_of_lt, take-append-drop}
use Rattle.mk_world.specs.Calls.{AddsEvents}
use Rattle.mk_world.specs.History.{Effect, NotEarlier, State, May, children_after, effected, effected_all, effects, last_time, state_of}
use Rattle.mk_world.specs.declared.history.Child.{Child}
use Rattle.mk_world.specs.declared.history.History.{History}
use Rattle.mk_world.proofs.CallLemmas.{adds_nothing}
use Rattle.mk_commands.specs.Files.{files_in}
use Rattle.mk_commands.specs.Meaning.{language}
use Rattle.mk_memworld.specs.Chronicle.{IsPresent, with_event}
use Rattle.mk_memworld.specs.Running.{AddsSteps}
use Rattle.mk_memworld.specs.Writes.{OwnPartOf, event_of, part_written}
use Rattle.mk_memworld.specs.declared.chronicle.Chronicle.TheInside.{Inside}
use Rattle.mk_memworld.specs.declared.writing.Writing.{Writing}
use Rattle.mk_memworld.specs.declared.writing.Writing.TheVariants.{Stamp, Put}
use Rattle.mk_memworld.proofs.ChronicleLemmas.{IsPresent-more, state_of-with_event}
use Rattle.mk_memworld.proofs.RunningLemmas.{AddsEvents-behind}
use Rattle.mk_memworld.proofs.WorldLemmas.{adds_event}

-- the file is there with these bytes
abbrev written : List ℕ → List ℕ → ℕ → Effect
written path bytes time = record { path = path; bytes = Some bytes; time = time }

effects-write : (writing : Writing) (path bytes : List ℕ) (time : ℕ)
    → effects (event_of writing path bytes time) ≡ written path bytes time ∷ []
effects-write Stamp path bytes time = refl
effects-write Put path bytes time = refl

children-write : (writing : Writing) (path bytes : List ℕ) (time : ℕ) (children : List Child)
    → children_after children (event_of writing path bytes time) ≡ children
children-write Stamp path bytes time children = refl
children-write Put path bytes time children = refl

-- what is kept stays the present state when a file is written
pub IsPresent-write : (t u : Inside) (writing : Writing) (path copy bytes text : List ℕ) (time : ℕ)
    → IsPresent t → copy ≡ path → text ≡ bytes
    → u.events.items ≡ t.events.items ++ event_of writing copy text time ∷ []
    → files_in u.files ≡ effected (files_in t.files) (written path bytes time)
    → vec_len u.events + vec_len u.children ≤ vec_capacity u.events
    → u.base ≡ t.base → u.clock ≡ time → t.clock ≤ time → u.children.items ≡ t.children.items
    → IsPresent u
IsPresent-write t u writing path copy bytes text time present same_path same_bytes events files room base clock later children =
    let are = effects-write writing copy text time in
    let file : written path bytes time ≡ written copy text time =
    λ i. written (sym same_path i) (sym same_bytes i) time in
    IsPresent-more t u (event_of writing copy text time) present base events
    (files ∙ ap (effected (files_in t.files)) file
    ∙ ap (effected_all (files_in t.files)) (sym are))
    (clock ∙ ap (last_time t.clock) (sym are))
    (children ∙ sym (children-write writing copy text time t.children.items))
    (subst (NotEarlier t.clock) (sym are) (later, tt)) room

-- the running children stay
pub same_children : (old new : History) (writing : Writing) (path bytes : List ℕ) (time : ℕ)
    → new ≡ with_event old (event_of writing path bytes time)
    → (state_of new).children ≡ (state_of old).children
same_children old new writing path bytes time is =
    ap (λ (s : State). s.children) (state_of-with_event old new _ is)
    ∙ children-write writing path bytes time (state_of old).children

-- a write at a later time may happen
may_write : (writing : Writing) (path bytes : List ℕ) (time : ℕ) (state : State)
    → state.stamped ≤ state.clock → state.clock < time → May language state (event_of writing path bytes time)
may_write Stamp path bytes time state stamped later = ((le_of_lt later, tt), lt_of_le_of_lt stamped later)
may_write Put path bytes time state stamped later = ((le_of_lt later, tt), tt)

-- a write behind steps
pub adds_write : (old mid new : History) (writing : Writing) (path bytes : List ℕ) (time : ℕ)
    → AddsSteps old mid → new ≡ with_event mid (event_of writing path bytes time)
    → (state_of mid).stamped ≤ (state_of mid).clock → (state_of mid).clock < time
    → AddsEvents language (λ _ own. own ≡ event_of writing path bytes time ∷ []) old new
adds_write old mid new writing path bytes time steps is stamped later =
    let event = event_of writing path bytes time in
    AddsEvents-behind _ old mid new steps
    (adds_event (λ _ own. own ≡ event ∷ []) mid new event is
    (may_write writing path bytes time (state_of mid) stamped later) refl)

-- a refused write behind steps
pub unwritten_behind : (writing : Writing) (path bytes : List ℕ) (old new : History)
    → AddsSteps old new → AddsEvents language (OwnPartOf writing path bytes) old new
unwritten_behind writing path bytes old new steps =
    AddsEvents-behind (OwnPartOf writing path bytes) old new new steps
    (adds_nothing language (OwnPartOf writing path bytes) new (inl refl))

pub unwritten_after : {T E : Type 0} (result : Result T E) (writing : Writing)
    (path bytes : List ℕ) (old mid new : History) → AddsSteps old mid → new ≡ mid
    → OnErr result (AddsEvents language (OwnPartOf writing path bytes) old new)
unwritten_after (Ok answer) writing path bytes old mid new steps same = tt
unwritten_after (Err fault) writing path bytes old mid new steps same =
    unwritten_behind writing path bytes old new (subst (AddsSteps old) (sym same) steps)

-- a write of which a part stands, behind steps
pub adds_part : (writing : Writing) (path bytes : List ℕ) (time : ℕ) (count : Option ℕ)
    (old mid new : History) → AddsSteps old mid
    → new ≡ part_written mid writing path bytes time count
    → (state_of mid).stamped ≤ (state_of mid).clock → (state_of mid).clock < time
    → AddsEvents language (OwnPartOf writing path bytes) old new
adds_part writing path bytes time None old mid new steps is stamped later =
    unwritten_behind writing path bytes old new (subst (AddsSteps old) (sym is) steps)
adds_part writing path bytes time (Some count) old mid new steps is stamped later =
    let part = take count bytes in
    let Own = OwnPartOf writing path bytes in
    AddsEvents-behind Own old mid new steps
    (adds_event Own mid new (event_of writing path part time) is
    (may_write writing path part time (state_of mid) stamped later)
    (inr (
      part,
      time,
      record {
        rest = drop count bytes;
        is = sym (take-append-drop count bytes);
      },
      refl,
    )))

-- the children stay when a part of a file is written
pub same_children_part : (old new : History) (writing : Writing) (path bytes : List ℕ) (time : ℕ)
    (count : Option ℕ) → new ≡ part_written old writing path bytes time count
    → (state_of new).children ≡ (state_of old).children
same_children_part old new writing path bytes time None is =
    ap (λ (h : History). (state_of h).children) is
same_children_part old new writing path bytes time (Some count) is =
    same_children old new writing path (take count bytes) time is
