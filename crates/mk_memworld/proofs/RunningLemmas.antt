-- The steps of running children, as events that may happen.
use Rattle.std.proofs.Common.{◌≡◌, ℕ, List, [], ◌∷◌, ◌++◌, Some, refl, sym, ◌∙◌, ap, subst, append_assoc}
use Rattle.std.proofs.lemmas.List.{append-nil}
use Rattle.mk_world.specs.Calls.{AddsEvents, AreSteps, OwnNothing}
use Rattle.mk_world.specs.History.{State, IsStep, May, MayAll, MayStep, after_all, child_in, contents, state_of}
use Rattle.mk_world.specs.Runs.{Run}
use Rattle.mk_world.specs.declared.history.Child.{Child}
use Rattle.mk_world.specs.declared.history.Happening.{Happening}
use Rattle.mk_world.specs.declared.history.Happening.TheVariants.{Step}
use Rattle.mk_world.specs.declared.history.History.{History}
use Rattle.mk_world.specs.declared.step.Deed.{Deed}
use Rattle.mk_world.proofs.CallLemmas.{MayAll-append, adds_steps_own, after_all-append, state_of-run}
use Rattle.mk_commands.specs.Clock.{time_of}
use Rattle.mk_commands.specs.Meaning.{language}
use Rattle.mk_memworld.specs.Chronicle.{with_event}
use Rattle.mk_memworld.specs.Running.{AddsSteps}
use Rattle.mk_commands.proofs.StepLemmas.{NotEarlier-step}

AreSteps-append : (first second : List Happening) → AreSteps first → AreSteps second
    → AreSteps (first ++ second)
AreSteps-append [] second are too = too
AreSteps-append (event ∷ first) second are too = (are.0, AreSteps-append first second are.1 too)

abbrev pub run_of_steps : {old new : History} → AddsSteps old new → Run language old new
run_of_steps adds = record {
  events = adds.events;
  base = adds.base;
  longer = adds.longer;
  lawful = adds.lawful;
}

pub AddsSteps-none : (history : History) → AddsSteps history history
AddsSteps-none history = record {
  events = [];
  base = refl;
  longer = sym (append-nil history.events);
  steps = tt;
  lawful = tt;
}

-- events after steps
pub longer_by : {old mid new : History} (adds : AddsSteps old mid) (event : Happening)
    → new ≡ with_event mid event → new.events ≡ old.events ++ (adds.events ++ event ∷ [])
longer_by {old} {mid} {new} adds event is =
    ap (λ (h : History). h.events) is ∙ ap (λ l. l ++ event ∷ []) adds.longer
    ∙ append_assoc old.events adds.events (event ∷ [])

pub lawful_by : {old mid : History} (adds : AddsSteps old mid) (event : Happening)
    → May language (state_of mid) event
    → MayAll language (state_of old) (adds.events ++ event ∷ [])
lawful_by {old} {mid} adds event may =
    MayAll-append language (state_of old) adds.events (event ∷ []) adds.lawful
    (subst (λ s. MayAll language s (event ∷ [])) (state_of-run (run_of_steps adds)) (may, tt))

pub AddsSteps-more : {old mid new : History} (ticket owner : ℕ) (deed : Deed) (time : ℕ)
    → AddsSteps old mid → new ≡ with_event mid (Step ticket owner deed time)
    → May language (state_of mid) (Step ticket owner deed time) → AddsSteps old new
AddsSteps-more {old} {mid} {new} ticket owner deed time adds is may =
    let event = Step ticket owner deed time in record {
      events = adds.events ++ event ∷ [];
      base = ap (λ (h : History). h.base) is ∙ adds.base;
      longer = longer_by adds event is;
      steps = AreSteps-append adds.events (event ∷ []) adds.steps
          ((ticket, owner, deed, time, refl), tt);
      lawful = lawful_by adds event may;
    }

-- a step of a running child may happen
pub may_step : (mid : History) (ticket : ℕ) (deed : Deed) (child : Child)
    → child_in (state_of mid).children ticket ≡ Some child
    → IsStep language.next (contents (state_of mid).files) child.owner deed child
    → May language (state_of mid)
    (Step ticket child.owner deed (time_of (state_of mid).clock deed))
may_step mid ticket deed child found step = (
  NotEarlier-step (state_of mid).clock deed,
  subst (MayStep language.next (contents (state_of mid).files) child.owner deed) (sym found) step,
)

-- steps behind steps
pub AddsSteps-then : {old mid new : History} → AddsSteps old mid → AddsSteps mid new
    → AddsSteps old new
AddsSteps-then {old} {mid} {new} first second = record {
  events = first.events ++ second.events;
  base = second.base ∙ first.base;
  longer = second.longer ∙ ap (λ l. l ++ second.events) first.longer
      ∙ append_assoc old.events first.events second.events;
  steps = AreSteps-append first.events second.events first.steps second.steps;
  lawful = MayAll-append language (state_of old) first.events second.events first.lawful
      (subst (λ s. MayAll language s second.events) (state_of-run (run_of_steps first))
      second.lawful);
}

-- a call that was refused behind some steps
pub refused_behind : {old new : History} → AddsSteps old new
    → AddsEvents language OwnNothing old new
refused_behind {old} {new} adds =
    adds_steps_own language OwnNothing old new adds.events [] adds.steps adds.base
    (adds.longer ∙ ap (λ l. old.events ++ l) (sym (append-nil adds.events)))
    (subst (MayAll language (state_of old)) (sym (append-nil adds.events)) adds.lawful) refl

-- steps before a call
pub AddsEvents-behind : (Own : State → List Happening → Type 0) (old mid new : History)
    → AddsSteps old mid → AddsEvents language Own mid new → AddsEvents language Own old new
AddsEvents-behind Own old mid new steps adds =
    let run = run_of_steps steps in
    let now : state_of mid ≡ after_all (state_of old) steps.events = state_of-run run in
    let rest = adds.own ++ adds.late in
    let apart = append_assoc steps.events adds.early rest in record {
      early = steps.events ++ adds.early;
      own = adds.own;
      late = adds.late;
      base = adds.base ∙ steps.base;
      events = adds.events ∙ ap (λ l. l ++ (adds.early ++ rest)) steps.longer
          ∙ append_assoc old.events steps.events (adds.early ++ rest)
          ∙ ap (λ l. old.events ++ l) (sym apart);
      early_steps = AreSteps-append steps.events adds.early steps.steps adds.early_steps;
      late_steps = adds.late_steps;
      lawful = subst (MayAll language (state_of old)) (sym apart)
          (MayAll-append language (state_of old) steps.events (adds.early ++ rest) steps.lawful
          (subst (λ s. MayAll language s (adds.early ++ rest)) now adds.lawful));
      is_own = subst (λ s. Own s adds.own)
          (ap (λ s. after_all s adds.early) now
          ∙ sym (after_all-append (state_of old) steps.events adds.early)) adds.is_own;
    }
