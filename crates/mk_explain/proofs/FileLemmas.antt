-- Looks where no child runs: all are answered by the files at the beginning.
use Rattle.std.proofs.Common.{◌≡◌, ◌∙◌, ℕ, List, [], ◌∷◌, ◌++◌, Option, Some, None}
use Rattle.std.proofs.Common.{refl, sym, ap, subst}
use Rattle.std.specs.List.{AllByRecursion}
use Rattle.mk_plan.proofs.LookLemmas.{only_none, only_then, state_of-looks}
use Rattle.mk_world.proofs.IdleLemmas.{IsIdle, KeepsIdle, adds_alone}
use Rattle.mk_world.specs.Calls.{AddsEvents}
use Rattle.mk_world.specs.History.{State, after_all, state_of, tickets_of}
use Rattle.mk_world.specs.Looks.{LooksAll, OnlyLooked, OnlyLooks, OwnLook, Seen, answered, dated, read}
use Rattle.mk_world.specs.Talks.{Meaning}
use Rattle.mk_world.specs.Told.{Told}
use Rattle.mk_world.specs.declared.history.Happening.{Happening}
use Rattle.mk_world.specs.declared.history.Happening.TheVariants.{Look}
use Rattle.mk_world.specs.declared.history.History.{History}
use Rattle.mk_decision.specs.Looks.{LooksAt}
use Rattle.mk_explain.specs.Turns.{IsAnswered, SawFiles}

-- what is so answered, one after the other
abbrev AreAnswered : History → List Seen → Type 0
AreAnswered history seen = AllByRecursion (IsAnswered (state_of history).files) seen

-- the path of a look, where it was answered
abbrev paths_of : Option Seen → List (List ℕ)
paths_of None = []
paths_of (Some (dated one)) = one.path ∷ []
paths_of (Some (read path bytes)) = path ∷ []

-- its event
abbrev events_of : Option Seen → List Happening
events_of None = []
events_of (Some (dated one)) = Look one.path ∷ []
events_of (Some (read path bytes)) = Look path ∷ []

own-events : (one : Option Seen) (state : State) (own : List Happening) → OwnLook one state own
    → own ≡ events_of one
own-events None state own is = is
own-events (Some (dated one)) state own is = is.0
own-events (Some (read path bytes)) state own is = is.0

events-idle : (one : Option Seen) (state : State) → state.children ≡ []
    → (after_all state (events_of one)).children ≡ []
events-idle None state none = none
events-idle (Some (dated one)) state none = none
events-idle (Some (read path bytes)) state none = none

keeps-idle : (one : Option Seen) → KeepsIdle (OwnLook one)
keeps-idle one = λ state own is none.
    subst (λ l. (after_all state l).children ≡ []) (sym (own-events one state own is))
    (events-idle one state none)

own-answered : (one : Option Seen) (history : History) (own : List Happening)
    → OwnLook one (state_of history) own → AreAnswered history (answered (one ∷ []))
own-answered None history own is = tt
own-answered (Some (dated one)) history own is = (is.1, tt)
own-answered (Some (read path bytes)) history own is = (is.1, tt)

only-one : (one : Option Seen) (old new : History) → new.base ≡ old.base
    → new.events ≡ old.events ++ events_of one → OnlyLooks old new
only-one None old new base events = record { looks = []; base = base; events = events }
only-one (Some (dated one)) old new base events =
    record { looks = one.path ∷ []; base = base; events = events }
only-one (Some (read path bytes)) old new base events =
    record { looks = path ∷ []; base = base; events = events }

-- one look
look-alone : (meaning : Meaning) (one : Option Seen) (old new : History)
    → tickets_of (state_of old).children ≡ [] → AddsEvents meaning (OwnLook one) old new
    → OnlyLooks old new × AreAnswered old (answered (one ∷ []))
look-alone meaning one old new idle adds =
    let alone = adds_alone (keeps-idle one) idle adds in (
      only-one one old new alone.base
          (alone.events ∙ ap (λ l. old.events ++ l) (own-events one (state_of old) alone.own alone.is_own)),
      own-answered one old alone.own alone.is_own,
    )

answered-more : (one : Option Seen) (more : List (Option Seen)) (history : History)
    → AreAnswered history (answered (one ∷ [])) → AreAnswered history (answered more)
    → AreAnswered history (answered (one ∷ more))
answered-more None more history first rest = rest
answered-more (Some seen) more history first rest = (first.0, rest)

-- one look after the other
looks-alone : (meaning : Meaning) (questions : List (Option Seen)) (old new : History)
    → tickets_of (state_of old).children ≡ [] → LooksAll meaning questions old new
    → OnlyLooks old new × AreAnswered old (answered questions)
looks-alone meaning [] old new idle same =
    (subst (λ h. OnlyLooks old h) (sym same) (only_none old), tt)
looks-alone meaning (one ∷ more) old new idle looks =
    let mid = looks.0 in
    let first = look-alone meaning one old mid idle looks.1 in
    let same = state_of-looks first.0 in
    let rest = looks-alone meaning more mid new
    (subst (λ s. tickets_of s.children ≡ []) (sym same) idle) looks.2 in (
      only_then first.0 rest.0,
      answered-more one more old first.1
          (subst (λ (s : State). AllByRecursion (IsAnswered s.files) (answered more)) same rest.1),
    )

told-alone : (meaning : Meaning) (questions : List (Option Seen)) (a b : Option History) → IsIdle a
    → Told a b (LooksAll meaning questions)
    → Told a b (λ old new. OnlyLooks old new × AreAnswered old (answered questions))
told-alone meaning questions a None idle told = tt
told-alone meaning questions None (Some new) idle told = absurd told
told-alone meaning questions (Some old) (Some new) idle told =
    looks-alone meaning questions old new (idle old refl) told

-- looks of make in a world that runs no child
pub saw-files : (meaning : Meaning) (a b : Option History) (seen : List Seen) → IsIdle a
    → LooksAt meaning a b seen → SawFiles meaning a b seen
saw-files meaning a b seen idle looked = record {
  looked = looked;
  answered = subst (λ l. Told a b (λ old new. OnlyLooks old new × AreAnswered old l)) (sym looked.are)
      (told-alone meaning looked.questions a b idle looked.told);
}

pub saw-only : (meaning : Meaning) (a b : Option History) (seen : List Seen) → SawFiles meaning a b seen
    → OnlyLooked a b
saw-only meaning a b seen saw = from a b saw.answered
  where
    from : (a b : Option History)
        → Told a b (λ old new. OnlyLooks old new × AreAnswered old seen) → OnlyLooked a b
    from a None told = tt
    from None (Some new) told = absurd told
    from (Some old) (Some new) told = (told.0, tt)
