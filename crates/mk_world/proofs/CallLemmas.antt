-- What one call adds, and what several calls add together.
use Rattle.std.proofs.Common.{◌≡◌, List, [], ◌∷◌, ◌++◌, Option, Some, None, Result, Ok, Err}
use Rattle.std.proofs.Common.{OnErr, refl, sym, ◌∙◌, ap, subst, append_assoc}
use Rattle.std.proofs.lemmas.List.{append-nil}
use Rattle.mk_world.specs.Calls.{AreSteps, AddsEvents, Adds, OwnNothing}
use Rattle.mk_world.specs.History.{State, MayAll, MayStep, after, after_all, child_in, contents}
use Rattle.mk_world.specs.History.{first_state, state_of, tickets_of}
use Rattle.mk_world.specs.Runs.{Run}
use Rattle.mk_world.specs.Talks.{Meaning}
use Rattle.mk_world.specs.Told.{Told}
use Rattle.mk_world.specs.declared.history.Child.{Child}
use Rattle.mk_world.specs.declared.history.Happening.{Happening}
use Rattle.mk_world.specs.declared.history.History.{History}

pub after_all-append : (state : State) (first second : List Happening)
    → after_all state (first ++ second) ≡ after_all (after_all state first) second
after_all-append state [] second = refl
after_all-append state (event ∷ first) second = after_all-append (after state event) first second

pub MayAll-append : (meaning : Meaning) (state : State) (first second : List Happening)
    → MayAll meaning state first → MayAll meaning (after_all state first) second
    → MayAll meaning state (first ++ second)
MayAll-append meaning state [] second may then_may = then_may
MayAll-append meaning state (event ∷ first) second may then_may =
    (may.0, MayAll-append meaning (after state event) first second may.1 then_may)

pub MayAll-parts : (meaning : Meaning) (state : State) (first second : List Happening)
    → MayAll meaning state (first ++ second)
    → MayAll meaning state first × MayAll meaning (after_all state first) second
MayAll-parts meaning state [] second may = (tt, may)
MayAll-parts meaning state (event ∷ first) second may =
    let parts = MayAll-parts meaning (after state event) first second may.1 in
    ((may.0, parts.0), parts.1)

-- the state behind a run is that of its events
pub state_of-run : {meaning : Meaning} {old new : History} → (run : Run meaning old new)
    → state_of new ≡ after_all (state_of old) run.events
state_of-run {meaning} {old} {new} run =
    ap (λ base. after_all (first_state base) new.events) run.base
    ∙ (ap (λ events. after_all (first_state old.base) events) run.longer
    ∙ after_all-append (first_state old.base) old.events run.events)

pub run_of_adds : {meaning : Meaning} {Own : State → List Happening → Type 0} {old new : History}
    → AddsEvents meaning Own old new → Run meaning old new
run_of_adds adds = record {
  events = adds.early ++ (adds.own ++ adds.late);
  base = adds.base;
  longer = adds.events;
  lawful = adds.lawful;
}

pub run_then : {meaning : Meaning} {a b c : History} → Run meaning a b → Run meaning b c
    → Run meaning a c
run_then {meaning} {a} {b} {c} first second = record {
  events = first.events ++ second.events;
  base = second.base ∙ first.base;
  longer =
      second.longer ∙ (ap (λ l. l ++ second.events) first.longer
      ∙ append_assoc a.events first.events second.events);
  lawful = MayAll-append meaning (state_of a) first.events second.events first.lawful
      (subst (λ s. MayAll meaning s second.events) (state_of-run first) second.lawful);
}

pub told_run : (meaning : Meaning) (Own : State → List Happening → Type 0)
    (before after : Option History) → Adds meaning before after Own
    → Told before after (Run meaning)
told_run meaning Own before None told = tt
told_run meaning Own None (Some new) told = absurd told
told_run meaning Own (Some old) (Some new) told = run_of_adds told

pub told_then : (meaning : Meaning) (a b c : Option History) → Told a b (Run meaning)
    → Told b c (Run meaning) → Told a c (Run meaning)
told_then meaning a b None first second = tt
told_then meaning a None (Some z) first second = absurd second
told_then meaning None (Some y) (Some z) first second = absurd first
told_then meaning (Some x) (Some y) (Some z) first second = run_then first second

pub told_none : (meaning : Meaning) (a : Option History) → Told a a (Run meaning)
told_none meaning None = tt
told_none meaning (Some x) =
    record { events = []; base = refl; longer = sym (append-nil x.events); lawful = tt }

-- a call that did nothing
pub adds_nothing : (meaning : Meaning) (Own : State → List Happening → Type 0) (old : History)
    → Own (state_of old) [] → AddsEvents meaning Own old old
adds_nothing meaning Own old own = record {
  early = [];
  own = [];
  late = [];
  base = refl;
  events = sym (append-nil old.events);
  early_steps = tt;
  late_steps = tt;
  lawful = tt;
  is_own = own;
}

-- a call with events of its own alone
pub adds_own : (meaning : Meaning) (Own : State → List Happening → Type 0) (old new : History)
    (own : List Happening) → new.base ≡ old.base → new.events ≡ old.events ++ own
    → MayAll meaning (state_of old) own → Own (state_of old) own → AddsEvents meaning Own old new
adds_own meaning Own old new own base longer may is = record {
  early = [];
  own = own;
  late = [];
  base = base;
  events = longer ∙ ap (λ l. old.events ++ l) (sym (append-nil own));
  early_steps = tt;
  late_steps = tt;
  lawful = subst (MayAll meaning (state_of old)) (sym (append-nil own)) may;
  is_own = is;
}

-- a call with steps before its own events
pub adds_steps_own : (meaning : Meaning) (Own : State → List Happening → Type 0)
    (old new : History) (steps own : List Happening) → AreSteps steps → new.base ≡ old.base
    → new.events ≡ old.events ++ (steps ++ own) → MayAll meaning (state_of old) (steps ++ own)
    → Own (after_all (state_of old) steps) own → AddsEvents meaning Own old new
adds_steps_own meaning Own old new steps own are base longer may is = record {
  early = steps;
  own = own;
  late = [];
  base = base;
  events = longer ∙ ap (λ l. old.events ++ (steps ++ l)) (sym (append-nil own));
  early_steps = are;
  late_steps = tt;
  lawful = subst (λ l. MayAll meaning (state_of old) (steps ++ l)) (sym (append-nil own)) may;
  is_own = is;
}

on_err : {T E : Type 0} (result : Result T E) (P : Type 0) → P → OnErr result P
on_err (Ok x) P p = tt
on_err (Err e) P p = p

-- a refused call of a world, whatever it tells, after which its history is as it was
pub refused_same : {T E : Type 0} (meaning : Meaning) (result : Result T E)
    (before after : Option History) → after ≡ before
    → OnErr result (Adds meaning before after OwnNothing)
refused_same meaning result before after same =
    on_err result _ (subst (λ h. Adds meaning before h OwnNothing) (sym same) (nothing before))
  where
    nothing : (h : Option History) → Adds meaning h h OwnNothing
    nothing None = tt
    nothing (Some old) = adds_nothing meaning OwnNothing old refl

-- where no child runs, there are no steps
pub no_steps : (meaning : Meaning) (state : State) (events rest : List Happening)
    → state.children ≡ [] → AreSteps events → MayAll meaning state (events ++ rest)
    → events ≡ []
no_steps meaning state [] rest idle steps may = refl
no_steps meaning state (event ∷ events) rest idle steps may =
    let step = steps.0 in
    let may_step = subst (λ e. MayAll meaning state (e ∷ events ++ rest)) step.4 may in
    absurd (subst
    (λ (children : List Child).
    MayStep meaning.next (contents state.files) step.1 step.2 (child_in children step.0))
    idle may_step.0.1)

pub no_tickets : (children : List Child) → tickets_of children ≡ [] → children ≡ []
no_tickets [] is = refl
no_tickets (child ∷ children) is = cc
