-- The turn of a child, as an event that may happen, and how things stand after it.
use Rattle.std.proofs.Common.{◌≡◌, ℕ, ◌+◌, List, ◌∷◌, [], ◌++◌, Bool, true, false, ◌==◌, Option, Some, None, IsSomeAnd, if◌then◌else◌, Result, Ok, Err, IfOk, refl, sym, ◌∙◌, ap, subst, arith, map}
use Rattle.std.proofs.lemmas.Bool.Decides.{nat_tests}
use Rattle.std.proofs.lemmas.Grind.{common_steps}
use Rattle.mk_world.specs.Deeds.{IsRight, Store, changes}
use Rattle.mk_world.specs.History.{State, child_in, contents, files_of, state_of, stepped, tickets_of}
use Rattle.mk_world.specs.Talks.{Doing, IsDoing, answer, deed_on, place}
use Rattle.mk_world.specs.declared.history.Child.{Child}
use Rattle.mk_world.specs.declared.history.Happening.TheVariants.{Step}
use Rattle.mk_world.specs.declared.history.History.{History}
use Rattle.mk_world.specs.declared.step.Answer.{Answer}
use Rattle.mk_world.specs.declared.step.Deed.{Deed}
use Rattle.mk_world.specs.declared.step.Next.{Next}
use Rattle.mk_world.specs.declared.step.Next.TheVariants.{More, Over}
use Rattle.mk_world.specs.declared.step.Request.{Request}
use Rattle.mk_world.proofs.ChangeLemmas.{contents-effected_all}
use Rattle.mk_world.proofs.TalkLemmas.{deed_on-right}
use Rattle.mk_commands.specs.Clock.{time_of}
use Rattle.mk_commands.specs.Language.{language_next}
use Rattle.mk_commands.specs.Rest.{doing_of}
use Rattle.mk_commands.specs.Steps.{after_step, child_after, deed_at_next, ends_at, numbers_of_step, step_of, with_step}
use Rattle.mk_commands.specs.declared.rest.Rest.{Rest}
use Rattle.mk_memworld.specs.Chronicle.{with_event}
use Rattle.mk_memworld.specs.Going.{IsTurn}
use Rattle.mk_memworld.specs.Running.{AddsSteps, IsRest, IsRestOf}
use Rattle.mk_memworld.specs.Schedule.{at_end, deed_by, deed_for, deed_of, gone_on, newly_ended, next_deed, stepped_on}
use Rattle.mk_memworld.specs.declared.going.Going.{Going}
use Rattle.mk_world.proofs.ChildLemmas.{child_in-other, child_in-stepped, child_in-ticket, tickets_of-stepped}
use Rattle.mk_commands.proofs.StepLemmas.{last_time-step}
use Rattle.mk_memworld.proofs.ChronicleLemmas.{state_of-with_event}
use Rattle.mk_memworld.proofs.RunningLemmas.{AddsSteps-more, AddsSteps-none, may_step}

-- a next step is that of a request
record Requested (store : Store) (next : Next) (deed : Deed) : Type 0 where
  pub request : Request
  pub asked : next ≡ More request
  pub done : deed ≡ deed_on request store

requested : (store : Store) (next : Next) (deed : Deed) → deed_at_next store next ≡ Some deed
    → Requested store next deed
requested store (More request) deed is = record { request = request; asked = refl; done = cc }
requested store (Over status output) deed is = cc

-- how things stand after the turn of a child, with the step that it did, if it did one
pub record DidTurn (old new : History) (going : Option ℕ) (deed : Option Deed) : Type 0 where
  pub steps : AddsSteps old new
  pub tickets : tickets_of (state_of new).children ≡ tickets_of (state_of old).children
  pub store : files_of new ≡ after_step (files_of old) deed
  pub clock : (state_of new).clock ≡ (state_of old).clock + numbers_of_step deed
  pub child : (ticket : ℕ) (child : Child) → child_in (state_of old).children ticket ≡ Some child
      → child_in (state_of new).children ticket ≡ Some (child_after going deed child)

same_step : (test : Bool) (deeds : Option Deed)
    → deeds ≡ None → (if test then deeds else None) ≡ None
same_step true deeds is = is
same_step false deeds is = refl

no_step_of : (going : Option ℕ) (ticket : ℕ) → step_of going None ticket ≡ None
no_step_of None ticket = refl
no_step_of (Some one) ticket = same_step (one == ticket) None refl

-- without a step nothing is different
did_nothing : (history : History) (going : Option ℕ) → DidTurn history history going None
did_nothing history going = record {
  steps = AddsSteps-none history;
  tickets = refl;
  store = refl;
  clock = omega arith;
  child = λ ticket child held. held ∙ ap (λ step. Some (record child
      { deeds = with_step child.deeds step })) (sym (no_step_of going child.ticket));
}

-- a child after the step of one
child_in-any : (test : Bool) (going ticket : ℕ) (deed : Deed) (child : Child) (old : State)
    → (going == child.ticket) ≡ test → child_in old.children ticket ≡ Some child
    → child_in (stepped going deed old.children) ticket
    ≡ Some (child_after (Some going) (Some deed) child)
child_in-any true going ticket deed child old is held =
    let named = child_in-ticket ticket old.children child held in
    let same : ticket ≡ going = grind (arith, nat_tests, common_steps) in
    rw is (subst (λ one. child_in (stepped going deed old.children) one
    ≡ Some (record child { deeds = child.deeds ++ deed ∷ [] })) (sym same)
    (child_in-stepped going deed old.children child
    (subst (λ one. child_in old.children one ≡ Some child) same held)))
child_in-any false going ticket deed child old is held =
    let named = child_in-ticket ticket old.children child held in
    let differ : (going == ticket) ≡ false = subst (λ one. (going == one) ≡ false) named is in
    rw is (child_in-other going ticket deed old.children differ ∙ held)

did_step : (old new : History) (ticket : ℕ) (deed : Deed) (child : Child)
    → child_in (state_of old).children ticket ≡ Some child
    → next_deed (state_of old) child ≡ Some deed
    → new ≡ with_event old (Step ticket child.owner deed (time_of (state_of old).clock deed))
    → DidTurn old new (Some ticket) (Some deed)
did_step old new ticket deed child found is event =
    let store = contents (state_of old).files in
    let asked = requested store _ deed is in
    let time = time_of (state_of old).clock deed in
    let now = state_of-with_event old new (Step ticket child.owner deed time) event in record {
      steps = AddsSteps-more ticket child.owner deed time (AddsSteps-none old) event
          (may_step old ticket deed child found (record {
            owned = refl;
            right = subst (IsRight store) (sym asked.done) (deed_on-right store asked.request);
            request = asked.request;
            stands = store (place asked.request);
            asked = asked.asked;
            done = asked.done;
          }));
      tickets = ap (λ (s : State). tickets_of s.children) now
          ∙ tickets_of-stepped ticket deed (state_of old).children;
      store = ap (λ (s : State). contents s.files) now
          ∙ contents-effected_all (state_of old).files (changes deed) time;
      clock = ap (λ (s : State). s.clock) now ∙ last_time-step (state_of old).clock deed;
      child = λ other one held. ap (λ (s : State). child_in s.children other) now
          ∙ child_in-any (ticket == one.ticket) ticket other deed one (state_of old) refl held;
    }

did_turn : (history : History) (ticket : ℕ) (child : Option Child) (deed : Option Deed)
    → child_in (state_of history).children ticket ≡ child
    → deed_of (state_of history) child ≡ deed
    → DidTurn history (stepped_on history ticket child deed) (Some ticket) deed
did_turn history ticket None None found is = did_nothing history (Some ticket)
did_turn history ticket None (Some deed) found is = cc
did_turn history ticket (Some child) None found is = did_nothing history (Some ticket)
did_turn history ticket (Some child) (Some deed) found is =
    did_step history _ ticket deed child found is refl

pub DidTurn-gone_on : (history : History) (going : Option ℕ)
    → DidTurn history (gone_on history going) going (deed_for (state_of history) going)
DidTurn-gone_on history None = did_nothing history None
DidTurn-gone_on history (Some ticket) =
    did_turn history ticket (child_in (state_of history).children ticket)
    (deed_by (state_of history) ticket) refl refl

-- the turn that was found beforehand
pub DidTurn-turn : (history : History) (going : Going) → IsTurn history going
    → DidTurn history (gone_on history going.ticket) going.ticket going.deed
DidTurn-turn history going turn =
    subst (DidTurn history (gone_on history going.ticket) going.ticket) (sym turn.deed)
    (DidTurn-gone_on history going.ticket)

pub AddsSteps-turn : (old new : History) (going : Option ℕ) → new ≡ gone_on old going
    → AddsSteps old new
AddsSteps-turn old new going is = subst (AddsSteps old) (sym is) (DidTurn-gone_on old going).steps

pub tickets-turn : (old new : History) (going : Option ℕ) → new ≡ gone_on old going
    → tickets_of (state_of new).children ≡ tickets_of (state_of old).children
tickets-turn old new going is =
    ap (λ (h : History). tickets_of (state_of h).children) is
    ∙ (DidTurn-gone_on old going).tickets

-- the clock after the turn
pub clock-turn : (history : History) (going : Going) → IsTurn history going
    → (state_of (gone_on history going.ticket)).clock
    ≡ (state_of history).clock + numbers_of_step going.deed
clock-turn history going turn = (DidTurn-turn history going turn).clock

-- the files after the turn
pub store-turn : (history : History) (going : Going) (store : Store) (deed : Option Deed)
    → IsTurn history going → store ≡ files_of history → deed ≡ going.deed
    → after_step store deed ≡ files_of (gone_on history going.ticket)
store-turn history going store deed turn stands is =
    ap (λ s. after_step s deed) stands ∙ ap (after_step (files_of history)) is
    ∙ sym (DidTurn-turn history going turn).store

-- what a child does after the turn
pub IsRest-turn : (history : History) (going : Going) (ticket : ℕ) (child : Child) (rest : Doing)
    → IsTurn history going → child_in (state_of history).children ticket ≡ Some child
    → IsDoing language_next child.cmd
    (map answer (with_step child.deeds (step_of going.ticket going.deed child.ticket)))
    (files_of (gone_on history going.ticket)) rest
    → IsRest (state_of (gone_on history going.ticket)) ticket rest
IsRest-turn history going ticket child rest turn held is =
    let now = state_of (gone_on history going.ticket) in
    subst (λ found. IsSomeAnd found (IsRestOf now rest))
    (sym ((DidTurn-turn history going turn).child ticket child held)) is

pub IfOk-rest : {E : Type 0} (history : History) (going : Going) (ticket : ℕ) (child : Child)
    (seen : List Answer) (store : Store) (result : Result Rest E) → IsTurn history going
    → child_in (state_of history).children ticket ≡ Some child
    → seen ≡ map answer (with_step child.deeds (step_of going.ticket going.deed child.ticket))
    → store ≡ files_of (gone_on history going.ticket)
    → IfOk result (λ rest. IsDoing language_next child.cmd seen store (doing_of rest))
    → IfOk result (λ rest. IsRest (state_of (gone_on history going.ticket)) ticket (doing_of rest))
IfOk-rest history going ticket child seen store (Ok rest) turn held answers files is =
    IsRest-turn history going ticket child (doing_of rest) turn held
    (subst (λ given. IsDoing language_next child.cmd given (files_of (gone_on history going.ticket))
    (doing_of rest)) answers
    (subst (λ s. IsDoing language_next child.cmd seen s (doing_of rest)) files is))
IfOk-rest history going ticket child seen store (Err fault) turn held answers files is = tt

-- a child without a next step does nothing
still_as : (history : History) (ticket : ℕ) (child : Option Child) (deed : Option Deed)
    → deed ≡ None → stepped_on history ticket child deed ≡ history
still_as history ticket None None is = refl
still_as history ticket None (Some deed) is = refl
still_as history ticket (Some child) None is = refl
still_as history ticket (Some child) (Some deed) is = cc

pub gone_on-still : (history : History) (ticket : ℕ) → deed_by (state_of history) ticket ≡ None
    → gone_on history (Some ticket) ≡ history
gone_on-still history ticket is =
    still_as history ticket (child_in (state_of history).children ticket)
    (deed_by (state_of history) ticket) is

-- whether a child has come to its end after its step
ended_at : (ticket : ℕ) (store : Store) (next : Next) (test : Bool) → test ≡ ends_at next
    → at_end ticket (deed_at_next store next) ≡ (if test then Some ticket else None)
ended_at ticket store (More request) true is = cc
ended_at ticket store (More request) false is = refl
ended_at ticket store (Over status output) true is = refl
ended_at ticket store (Over status output) false is = cc

pub newly_ended-step : (history : History) (ticket : ℕ) (child : Child) (deed : Option Deed)
    (test : Bool) → child_in (state_of history).children ticket ≡ Some child
    → deed ≡ deed_by (state_of history) ticket
    → test ≡ ends_at (language_next child.cmd (map answer (with_step child.deeds deed)))
    → newly_ended (state_of (gone_on history (Some ticket))) (Some ticket)
    ≡ (if test then Some ticket else None)
newly_ended-step history ticket child deed test held is over =
    let now = state_of (gone_on history (Some ticket)) in
    let named = child_in-ticket ticket (state_of history).children child held in
    let own : step_of (Some ticket) deed child.ticket ≡ deed =
    rw named (grind (arith, nat_tests, common_steps)) in
    let later = record child { deeds = with_step child.deeds deed } in
    let found : child_in now.children ticket ≡ Some later =
    (DidTurn-gone_on history (Some ticket)).child ticket child held
    ∙ ap (λ d. Some (child_after (Some ticket) d child)) (sym is)
    ∙ ap (λ d. Some (record child { deeds = with_step child.deeds d })) own in
    ap (λ one. at_end ticket (deed_of now one)) found
    ∙ ended_at ticket (contents now.files)
    (language_next child.cmd (map answer (with_step child.deeds deed))) test over
