-- Calls that only look, one after the other.
use Rattle.std.proofs.Common.{◌≡◌, ℕ, List, [], ◌∷◌, ◌++◌, map, Option, Some, None, is_none}
use Rattle.std.proofs.Common.{Result, Ok, Err, OnErr}
use Rattle.std.proofs.Common.{refl, sym, ◌∙◌, ap, subst, append_assoc}
use Rattle.std.proofs.lemmas.List.{append-nil, map-append}
use Rattle.std.specs.List.{AllByRecursion}
use Rattle.mk_world.specs.Calls.{AddsEvents, Adds, OwnNothing, OwnTime, when_of}
use Rattle.mk_world.specs.Deeds.{Store}
use Rattle.mk_world.specs.History.{Filed, State, MayAll, after_all, contents, files_of, first_state}
use Rattle.mk_world.specs.History.{state_of, tickets_of}
use Rattle.mk_world.specs.Runs.{Same}
use Rattle.mk_world.specs.Talks.{Meaning}
use Rattle.mk_world.specs.Told.{Told}
use Rattle.mk_world.specs.declared.history.Happening.TheVariants.{Look}
use Rattle.mk_world.specs.declared.history.History.{History}
use Rattle.mk_world.specs.declared.time.When.{When}
use Rattle.mk_world.proofs.CallLemmas.{after_all-append, no_steps, no_tickets}
use Rattle.mk_world.proofs.IdleLemmas.{IsIdle, same_idle}
use Rattle.std.specs.Option.{option_map}
use Rattle.mk_world.specs.Looks.{Dated, DatesAll, DatesOnce, OnlyLooks, OnLooks, is_missing}
use Rattle.mk_dirs.specs.Answered.{FitAnswers, ByLooks, OnlyDated}

after_looks : (state : State) (looks : List (List ℕ))
    → after_all state (map (λ path. Look path) looks) ≡ state
after_looks state [] = refl
after_looks state (path ∷ looks) = after_looks state looks

-- looks change nothing
pub state_of-looks : {old new : History} → OnlyLooks old new → state_of new ≡ state_of old
state_of-looks {old} {new} only =
    ap (λ base. after_all (first_state base) new.events) only.base
    ∙ (ap (λ events. after_all (first_state old.base) events) only.events
    ∙ (after_all-append (first_state old.base) old.events (map (λ path. Look path) only.looks)
    ∙ after_looks (state_of old) only.looks))

pub only_none : (h : History) → OnlyLooks h h
only_none h = record { looks = []; base = refl; events = sym (append-nil h.events) }

pub only_same : {old new : History} → Same old new → OnlyLooks old new
only_same {old} {new} same =
    record { looks = []; base = same.base; events = same.events ∙ sym (append-nil old.events) }

pub only_then : {a b c : History} → OnlyLooks a b → OnlyLooks b c → OnlyLooks a c
only_then {a} {b} {c} first second = record {
  looks = first.looks ++ second.looks;
  base = second.base ∙ first.base;
  events =
      second.events ∙ (ap (λ l. l ++ map (λ path. Look path) second.looks) first.events
      ∙ (append_assoc a.events (map (λ path. Look path) first.looks)
      (map (λ path. Look path) second.looks)
      ∙ ap (λ l. a.events ++ l)
      (sym (map-append (λ (path : List ℕ). Look path) first.looks second.looks))));
}

-- times that are asked for, one list behind the other

pub dates-none : (told : Option History) → Told told told (DatesAll [])
dates-none None = tt
dates-none (Some history) = refl

pub dates-append : (a b c : History) (first second : List Dated)
    → DatesAll first a b → DatesAll second b c → DatesAll (first ++ second) a c
dates-append a b c [] second same more = subst (λ h. DatesAll second h c) same more
dates-append a b c (one ∷ first) second looks more =
    (looks.0, looks.1, dates-append looks.0 b c first second looks.2 more)

pub dates-then : (a b c : Option History) (first second : List Dated)
    → Told a b (DatesAll first) → Told b c (DatesAll second) → Told a c (DatesAll (first ++ second))
dates-then a b None first second looks more = tt
dates-then a None (Some z) first second looks more = absurd more
dates-then None (Some y) (Some z) first second looks more = absurd looks
dates-then (Some x) (Some y) (Some z) first second looks more =
    dates-append x y z first second looks more

-- two lists of answers, one behind the other

fit-first : (files : Store) (first second : List Dated) → FitAnswers files (first ++ second)
    → FitAnswers files first
fit-first files [] second fit = tt
fit-first files (one ∷ first) second fit = (fit.0, fit-first files first second fit.1)

fit-second : (files : Store) (first second : List Dated) → FitAnswers files (first ++ second)
    → FitAnswers files second
fit-second files [] second fit = fit
fit-second files (one ∷ first) second fit = fit-second files first second fit.1

pub ByLooks-none : (told : Option History) (Fact : Store → Type 0)
    → ((files : Store) → Fact files) → ByLooks told told Fact
ByLooks-none told Fact holds =
    record { looks = []; told = dates-none told; so = λ files fit. holds files }

pub ByLooks-then : (a b c : Option History) (First Second Both : Store → Type 0)
    → ByLooks a b First → ByLooks b c Second
    → ((files : Store) → First files → Second files → Both files) → ByLooks a c Both
ByLooks-then a b c First Second Both first second join = record {
  looks = first.looks ++ second.looks;
  told = dates-then a b c first.looks second.looks first.told second.told;
  so = λ files fit. join files (first.so files (fit-first files first.looks second.looks fit))
      (second.so files (fit-second files first.looks second.looks fit));
}

pub ByLooks-map : (a b : Option History) (Fact Weaker : Store → Type 0)
    → ByLooks a b Fact → ((files : Store) → Fact files → Weaker files) → ByLooks a b Weaker
ByLooks-map a b Fact Weaker by weaken = record {
  looks = by.looks;
  told = by.told;
  so = λ files fit. weaken files (by.so files fit);
}

same-is : (old new : History) → Same old new → new ≡ old
same-is old new same =
    ap (λ l. record { base = l; events = new.events }) same.base
    ∙ ap (λ l. record { base = old.base; events = l }) same.events

-- a refused call of a world that runs no child
pub ByLooks-refused : (meaning : Meaning) (a b : Option History) (Fact : Store → Type 0)
    → IsIdle a → Adds meaning a b OwnNothing → ((files : Store) → Fact files) → ByLooks a b Fact
ByLooks-refused meaning a b Fact idle adds holds = record {
  looks = [];
  told = from a b (same_idle meaning a b idle adds);
  so = λ files fit. holds files;
}
  where
    from : (a b : Option History) → Told a b Same → Told a b (DatesAll [])
    from a None same = tt
    from None (Some y) same = absurd same
    from (Some x) (Some y) same = same-is x y same

timed_alone : (meaning : Meaning) (path : List ℕ) (when : When) (old new : History)
    → tickets_of (state_of old).children ≡ []
    → AddsEvents meaning (OwnTime path when) old new
    → DatesOnce (record { path = path; when = when }) old new
timed_alone meaning path when old new idle adds =
    let none = no_tickets (state_of old).children idle in
    let early : adds.early ≡ [] =
    no_steps meaning (state_of old) adds.early (adds.own ++ adds.late) none
    adds.early_steps adds.lawful in
    let own = adds.is_own in
    let may : MayAll meaning (state_of old) (Look path ∷ adds.late) =
    subst (λ l. MayAll meaning (state_of old) (l ++ adds.late)) own.0
    (subst (λ l. MayAll meaning (state_of old) (l ++ (adds.own ++ adds.late))) early
    adds.lawful) in
    let late : adds.late ≡ [] =
    no_steps meaning (state_of old) adds.late [] none adds.late_steps
    (subst (MayAll meaning (state_of old)) (sym (append-nil adds.late)) may.1) in record {
      base = adds.base;
      event = adds.events ∙ rw (early, late, own.0) refl;
      told = own.1 ∙ rw early refl;
    }

-- a look at a time, in a world that runs no child
pub ByLooks-timed : (meaning : Meaning) (path : List ℕ) (when : When) (a b : Option History)
    → IsIdle a → Adds meaning a b (OwnTime path when)
    → ByLooks a b (λ files. is_missing when ≡ is_none (files path))
ByLooks-timed meaning path when a b idle adds = record {
  looks = record { path = path; when = when } ∷ [];
  told = from a b idle adds;
  so = λ files fit. fit.0;
}
  where
    from : (a b : Option History) → IsIdle a → Adds meaning a b (OwnTime path when)
        → Told a b (DatesAll (record { path = path; when = when } ∷ []))
    from a None idle adds = tt
    from None (Some y) idle adds = absurd adds
    from (Some x) (Some y) idle adds = (y, timed_alone meaning path when x y (idle x refl) adds, refl)

-- a call that was refused behind looks
pub OnErr-looked : {T E : Type 0} (result : Result T E) (a b : Option History) → OnlyDated a b
    → OnErr result (OnlyDated a b)
OnErr-looked (Ok x) a b looked = tt
OnErr-looked (Err e) a b looked = looked

-- where the world tells

tells : (file : Option Filed) (when : When) → when ≡ when_of file
    → is_missing when ≡ is_none (option_map (λ (f : Filed). f.bytes) file)
tells None when is = rw is refl
tells (Some file) when is = rw is refl

once-only : (one : Dated) (old new : History) → DatesOnce one old new → OnlyLooks old new
once-only one old new once = record { looks = one.path ∷ []; base = once.base; events = once.event }

told-fit : (looks : List Dated) (old new : History) → DatesAll looks old new
    → OnlyLooks old new × FitAnswers (files_of old) looks
told-fit [] old new same = (subst (OnlyLooks old) (sym same) (only_none old), tt)
told-fit (one ∷ more) old new looks =
    let mid = looks.0 in
    let first : OnlyLooks old mid = once-only one old mid looks.1 in
    let rest = told-fit more mid new looks.2 in
    let same : files_of mid ≡ files_of old = ap (λ s. contents s.files) (state_of-looks first) in (
      only_then first rest.0,
      (
        tells ((state_of old).files one.path) one.when looks.1.told,
        subst (λ files. FitAnswers files more) same rest.1,
      ),
    )

-- What is so by the answers is so of the files of a world that tells.
pub ByLooks-told : {a b : Option History} {Fact : Store → Type 0} → ByLooks a b Fact → OnLooks a b Fact
ByLooks-told {a} {b} {Fact} by = from a b by.told
  where
    from : (a b : Option History) → Told a b (DatesAll by.looks) → OnLooks a b Fact
    from a None looks = tt
    from None (Some y) looks = absurd looks
    from (Some x) (Some y) looks =
        let is = told-fit by.looks x y looks in
        (is.0, by.so (files_of x) is.1)
