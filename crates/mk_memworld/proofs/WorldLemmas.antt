-- What the calls of the world add to its history.
use Rattle.std.proofs.Common.{◌≡◌, ℕ, zero, suc, ◌<◌, ◌∷◌, ◌++◌, ◌⊎◌, List, [], None, Some, IsSome, slice_get, Result, Ok, Err, OnErr, false, length, inl, inr, refl, sym, ◌∙◌, ap, subst, arith, append_assoc}
use Rattle.std.proofs.lemmas.Bool.Decides.{nat_tests}
use Rattle.std.proofs.lemmas.Grind.{common_steps}
use Rattle.std.proofs.lemmas.List.{append-nil, map-append}
use Rattle.std.specs.List.{list_any, remove}
use Rattle.std.specs.Prelude.{nat_eq}
use Rattle.mk_world.specs.Calls.{AddsEvents, OwnNothing, OwnLeft, TakenOut, left_all}
use Rattle.mk_world.specs.History.{State, May, MayAll, MayLeave, after, child_in, state_of, tickets_of}
use Rattle.mk_world.specs.declared.fault.WorldFault.{WorldFault}
use Rattle.mk_world.specs.declared.fault.WorldFault.TheVariants.{Failed, NoMemory}
use Rattle.mk_world.specs.declared.history.Child.{Child}
use Rattle.mk_world.specs.declared.history.Happening.{Happening}
use Rattle.mk_world.specs.declared.history.Happening.TheVariants.{Left}
use Rattle.mk_world.specs.declared.history.History.{History}
use Rattle.mk_world.proofs.CallLemmas.{adds_nothing, adds_own, no_tickets}
use Rattle.mk_commands.specs.Meaning.{language}
use Rattle.mk_memworld.specs.Chronicle.{with_event}
use Rattle.mk_memworld.specs.Outages.{FailsWhere, OnFailed}
use Rattle.mk_memworld.specs.Running.{AddsSteps, GivesUp, OfOldest}
use Rattle.mk_world.proofs.ChildLemmas.{child_in-first, without_child-first}
use Rattle.mk_memworld.proofs.ChronicleLemmas.{state_of-with_event}
use Rattle.mk_memworld.proofs.RunningLemmas.{AddsSteps-then, refused_behind}

-- a refused call, after which the history is as it was
pub refused_here : (history : History) → AddsEvents language OwnNothing history history
refused_here history = adds_nothing language OwnNothing history refl

pub refused_same : {T E : Type 0} (result : Result T E) (old new : History) → new ≡ old
    → OnErr result (AddsEvents language OwnNothing old new)
refused_same (Ok answer) old new same = tt
refused_same (Err fault) old new same =
    subst (AddsEvents language OwnNothing old) (sym same) (refused_here old)

-- a refused call after steps
pub refused_after : {T E : Type 0} (result : Result T E) (old new : History) → AddsSteps old new
    → OnErr result (AddsEvents language OwnNothing old new)
refused_after (Ok answer) old new steps = tt
refused_after (Err fault) old new steps = refused_behind steps

pub refused_later : {T E : Type 0} (result : Result T E) (old mid new : History)
    → AddsSteps old mid → new ≡ mid → OnErr result (AddsEvents language OwnNothing old new)
refused_later result old mid new steps same =
    refused_after result old new (subst (AddsSteps old) (sym same) steps)

pub refused_both : {T E : Type 0} (result : Result T E) (old mid new : History)
    → AddsSteps old mid → AddsSteps mid new → OnErr result (AddsEvents language OwnNothing old new)
refused_both result old mid new first second =
    refused_after result old new (AddsSteps-then first second)

-- a call with one event of its own
pub adds_event : (Own : State → List Happening → Type 0) (old new : History) (event : Happening)
    → new ≡ with_event old event → May language (state_of old) event
    → Own (state_of old) (event ∷ []) → AddsEvents language Own old new
adds_event Own old new event is may own =
    adds_own language Own old new (event ∷ []) (ap (λ (h : History). h.base) is)
    (ap (λ (h : History). h.events) is) (may, tt) own

-- a ticket that is not held is that of no child
pub not_held : (ticket : ℕ) (children : List Child)
    → list_any (nat_eq ticket) (tickets_of children) ≡ false → child_in children ticket ≡ None
not_held ticket [] free = refl
not_held ticket (child ∷ children) free =
    grind (arith, nat_tests, common_steps, not_held ticket children)

pub tickets_of-append : (children more : List Child)
    → tickets_of (children ++ more) ≡ tickets_of children ++ tickets_of more
tickets_of-append children more = map-append (λ (child : Child). child.ticket) children more

-- one ticket was taken out
pub TakenOut-at : (ticket place : ℕ) (old new : List ℕ) → slice_get old place ≡ Some ticket
    → new ≡ remove old place → TakenOut ticket old new
TakenOut-at ticket place [] new at is = cc
TakenOut-at ticket zero (one ∷ others) new at is = record {
  front = [];
  back = others;
  was = cc;
  now = is;
}
TakenOut-at ticket (suc place) (one ∷ others) new at is =
    let taken = TakenOut-at ticket place others (remove others place) at refl in record {
      front = one ∷ taken.front;
      back = taken.back;
      was = ap (λ l. one ∷ l) taken.was;
      now = is ∙ ap (λ l. one ∷ l) taken.now;
    }

-- a ticket that is held is that of a child
pub held_by : (ticket place : ℕ) (children : List Child)
    → slice_get (tickets_of children) place ≡ Some ticket → IsSome (child_in children ticket)
held_by ticket place [] at = cc
held_by ticket zero (child ∷ others) at = grind (arith, nat_tests, common_steps)
held_by ticket (suc place) (child ∷ others) at =
    grind (arith, nat_tests, common_steps, held_by ticket place others)

pub neither : {A B : Type 0} → (A → ⊥) → (B → ⊥) → A ⊎ B → ⊥
neither first second (inl is) = first is
neither first second (inr is) = second is

-- all children may be given up, in order
pub may_leave_all : (state : State) (children : List Child) → state.children ≡ children
    → MayAll language state (left_all children)
may_leave_all state [] are = tt
may_leave_all state (child ∷ others) are = (
  (
    tt,
    subst (MayLeave child.owner)
        (sym (ap (λ cs. child_in cs child.ticket) are
        ∙ child_in-first child others child.ticket refl)) refl,
  ),
  may_leave_all (after state (Left child.ticket child.owner)) others
      (ap (λ cs. (after (record state { children = cs })
      (Left child.ticket child.owner)).children) are
      ∙ without_child-first child others),
)

-- the oldest child was given up, and the others are still to be
pub record GaveUp (old new : History) : Type 0 where
  pub base : new.base ≡ old.base
  pub events : new.events ++ left_all (state_of new).children
      ≡ old.events ++ left_all (state_of old).children
  pub tickets : tickets_of (state_of new).children
      ≡ remove (tickets_of (state_of old).children) 0

gave_up_as : (old new : History) (children : List Child) → (state_of old).children ≡ children
    → OfOldest children (GivesUp old new) → GaveUp old new
gave_up_as old new [] are gives = absurd gives
gave_up_as old new (child ∷ others) are gives =
    let event = Left child.ticket child.owner in
    let left : (state_of new).children ≡ others =
    ap (λ (s : State). s.children) (state_of-with_event old new event gives)
    ∙ ap (λ cs. (after (record (state_of old) { children = cs }) event).children) are
    ∙ without_child-first child others in record {
      base = ap (λ (h : History). h.base) gives;
      events = ap (λ (h : History). h.events ++ left_all (state_of new).children) gives
          ∙ append_assoc old.events (event ∷ []) (left_all (state_of new).children)
          ∙ ap (λ cs. old.events ++ event ∷ left_all cs) left
          ∙ ap (λ cs. old.events ++ left_all cs) (sym are);
      tickets = ap tickets_of left ∙ ap (λ cs. remove (tickets_of cs) 0) (sym are);
    }

pub GaveUp-leave : (old new : History) → OfOldest (state_of old).children (GivesUp old new)
    → GaveUp old new
GaveUp-leave old new gives = gave_up_as old new (state_of old).children refl gives

-- where tickets are held, children run
pub some_children : (children : List Child) (tickets : List ℕ) → tickets_of children ≡ tickets
    → (tickets ≡ [] → ⊥) → 0 < length children
some_children [] tickets are some = absurd (some (sym are))
some_children (child ∷ children) tickets are some = omega arith

-- all children were given up
pub adds_left : (old new : History) → new.base ≡ old.base
    → new.events ++ left_all (state_of new).children ≡ old.events ++ left_all (state_of old).children
    → tickets_of (state_of new).children ≡ [] → AddsEvents language OwnLeft old new
adds_left old new base events none =
    let gone = no_tickets (state_of new).children none in
    adds_own language OwnLeft old new (left_all (state_of old).children) base
    (sym (append-nil new.events)
    ∙ ap (λ cs. new.events ++ left_all cs) (sym gone) ∙ events)
    (may_leave_all (state_of old) (state_of old).children refl) refl

-- a fault that is passed on has a cause that follows from its own
pub FailsWhere-passed : {T U : Type 0} (Cause Then : Type 0) (first : Result T WorldFault)
    (second : Result U WorldFault) (fault : WorldFault) → first ≡ Err fault → second ≡ Err fault
    → FailsWhere Cause first → (Cause → Then) → FailsWhere Then second
FailsWhere-passed Cause Then first second Failed is too cause follows =
    subst (FailsWhere Then) (sym too) (follows (subst (FailsWhere Cause) is cause))
FailsWhere-passed Cause Then first second NoMemory is too cause follows =
    subst (FailsWhere Then) (sym too) tt

pub OnFailed-passed : {T U : Type 0} (Fact Then : Type 0) (first : Result T WorldFault)
    (second : Result U WorldFault) (fault : WorldFault) → first ≡ Err fault → second ≡ Err fault
    → OnFailed first Fact → (Fact → Then) → OnFailed second Then
OnFailed-passed Fact Then first second Failed is too fact follows =
    subst (λ r. OnFailed r Then) (sym too) (follows (subst (λ r. OnFailed r Fact) is fact))
OnFailed-passed Fact Then first second NoMemory is too fact follows =
    subst (λ r. OnFailed r Then) (sym too) tt

-- either of two facts follows from either of two others
pub either : {A B C D : Type 0} → (A → C) → (B → D) → A ⊎ B → C ⊎ D
either first second (inl is) = inl (first is)
either first second (inr is) = inr (second is)
