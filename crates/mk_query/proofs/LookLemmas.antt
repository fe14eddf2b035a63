-- Looks where no child runs are all at one map of files.
use Rattle.std.proofs.Common.{◌≡◌, List, [], ◌∷◌, ◌++◌, map, Option, Some, None}
use Rattle.std.proofs.Common.{refl, sym, ◌∙◌, ap, subst, append_assoc}
use Rattle.std.proofs.lemmas.List.{append-nil}
use Rattle.std.specs.List.{AllByRecursion}
use Rattle.mk_decision.specs.Looks.{LooksAt}
use Rattle.mk_query.specs.Looks.{Saw, look_of}
use Rattle.mk_trace.specs.Items.{IsSeenIn}
use Rattle.mk_world.specs.History.{State, after_all, first_state, state_of, tickets_of}
use Rattle.mk_world.specs.Looks.{LooksAll, OwnLook, Seen, answered, dated, read}
use Rattle.mk_world.specs.Talks.{Meaning}
use Rattle.mk_world.specs.Told.{Told}
use Rattle.mk_world.specs.declared.history.Happening.{Happening}
use Rattle.mk_world.specs.declared.history.History.{History}
use Rattle.mk_world.proofs.CallLemmas.{after_all-append}
use Rattle.mk_world.proofs.IdleLemmas.{AddsAlone, IsIdle, adds_alone}

-- the looks of one call: none, or one that tells what stands there
abbrev OneLook : Option Seen → State → List Happening → Type 0
OneLook None state own = own ≡ []
OneLook (Some seen) state own = (own ≡ look_of seen ∷ []) × IsSeenIn state seen

one-look : (one : Option Seen) (state : State) (own : List Happening) → OwnLook one state own
    → OneLook one state own
one-look None state own is = is
one-look (Some (dated one)) state own is = is
one-look (Some (read path bytes)) state own is = is

-- a look leaves how things stand
after-look : (one : Option Seen) (state : State) (own : List Happening) → OneLook one state own
    → after_all state own ≡ state
after-look None state own is = rw is refl
after-look (Some seen) state own is = rw is.0 refl

stands-on : (old new : History) (own : List Happening) → new.base ≡ old.base
    → new.events ≡ old.events ++ own → state_of new ≡ after_all (state_of old) own
stands-on old new own base events =
    ap (λ base. after_all (first_state base) new.events) base
    ∙ (ap (λ events. after_all (first_state old.base) events) events
    ∙ after_all-append (first_state old.base) old.events own)

saw-none : (h : History) → Saw [] h h
saw-none h = record { base = refl; events = sym (append-nil h.events); told = tt }

saw-more : (one : Option Seen) (more : List Seen) (a b c : History) (own : List Happening)
    → OneLook one (state_of a) own → b.base ≡ a.base → b.events ≡ a.events ++ own
    → state_of b ≡ state_of a → Saw more b c → Saw (answered (one ∷ []) ++ more) a c
saw-more None more a b c own is base events same saw = record {
  base = saw.base ∙ base;
  events = saw.events ∙ ap (λ l. l ++ map look_of more)
      (events ∙ (ap (λ l. a.events ++ l) is ∙ append-nil a.events));
  told = subst (λ s. AllByRecursion (IsSeenIn s) more) same saw.told;
}
saw-more (Some seen) more a b c own is base events same saw = record {
  base = saw.base ∙ base;
  events = saw.events ∙ (ap (λ l. l ++ map look_of more) (events ∙ ap (λ l. a.events ++ l) is.0)
      ∙ append_assoc a.events (look_of seen ∷ []) (map look_of more));
  told = (is.1, subst (λ s. AllByRecursion (IsSeenIn s) more) same saw.told);
}

answered-first : (one : Option Seen) (more : List (Option Seen))
    → answered (one ∷ more) ≡ answered (one ∷ []) ++ answered more
answered-first None more = refl
answered-first (Some seen) more = refl

saw-all : (meaning : Meaning) (questions : List (Option Seen)) (a c : History)
    → tickets_of (state_of a).children ≡ [] → LooksAll meaning questions a c
    → Saw (answered questions) a c
saw-all meaning [] a c idle same = subst (λ h. Saw [] a h) (sym same) (saw-none a)
saw-all meaning (one ∷ more) a c idle looks =
    let b = looks.0 in
    let keeps : (state : State) (own : List Happening) → OwnLook one state own → state.children ≡ []
    → (after_all state own).children ≡ [] =
    λ state own is none. subst (λ s. s.children ≡ []) (sym (after-look one state own (one-look one state own is)))
    none in
    let alone : AddsAlone meaning (OwnLook one) a b = adds_alone keeps idle looks.1 in
    let is = one-look one (state_of a) alone.own alone.is_own in
    let same : state_of b ≡ state_of a =
    stands-on a b alone.own alone.base alone.events ∙ after-look one (state_of a) alone.own is in
    subst (λ l. Saw l a c) (sym (answered-first one more))
    (saw-more one (answered more) a b c alone.own is alone.base alone.events same
    (saw-all meaning more b c (ap (λ s. tickets_of s.children) same ∙ idle) looks.2))

-- what make saw where no child runs
pub saw : (meaning : Meaning) (before after : Option History) (seen : List Seen) → IsIdle before
    → LooksAt meaning before after seen → Told before after (Saw seen)
saw meaning before None seen idle looked = tt
saw meaning None (Some new) seen idle looked = absurd looked.told
saw meaning (Some old) (Some new) seen idle looked =
    subst (λ l. Saw l old new) (sym looked.are)
    (saw-all meaning looked.questions old new (idle old refl) looked.told)
