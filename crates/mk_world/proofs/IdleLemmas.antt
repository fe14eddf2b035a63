-- Calls of a world that runs no child.
use Rattle.std.proofs.Common.{◌≡◌, ℕ, List, [], ◌++◌, Option, Some, None, inl, inr}
use Rattle.std.proofs.Common.{refl, sym, ◌∙◌, ap, subst}
use Rattle.std.proofs.lemmas.List.{append-nil}
use Rattle.mk_world.specs.Calls.{AddsEvents, Adds, OwnList, OwnNothing, OwnRead}
use Rattle.mk_world.specs.Deeds.{Store}
use Rattle.mk_world.specs.History.{State, MayAll, after, after_all, files_of, state_of, tickets_of}
use Rattle.mk_world.specs.Runs.{Listed, Looked, LooksAt, OnFiles, Same}
use Rattle.mk_world.specs.Talks.{Meaning}
use Rattle.mk_world.specs.Told.{Told}
use Rattle.mk_world.specs.declared.history.Happening.{Happening}
use Rattle.mk_world.specs.declared.history.History.{History}
use Rattle.mk_world.proofs.CallLemmas.{MayAll-parts, no_steps, no_tickets}

-- no child runs in the history, where it is told
abbrev pub IsIdle : Option History → Type 0
IsIdle told = (h : History) → told ≡ Some h → tickets_of (state_of h).children ≡ []

-- own events that leave no child running
abbrev pub KeepsIdle : (State → List Happening → Type 0) → Type 0
KeepsIdle Own =
    (state : State) (own : List Happening) → Own state own → state.children ≡ []
    → (after_all state own).children ≡ []

-- what a call adds where no child runs: its own events, and nothing else
pub record AddsAlone (meaning : Meaning) (Own : State → List Happening → Type 0) (old new : History)
    : Type 0 where
  pub own : List Happening
  pub base : new.base ≡ old.base
  pub events : new.events ≡ old.events ++ own
  pub lawful : MayAll meaning (state_of old) own
  pub is_own : Own (state_of old) own

pub adds_alone : {meaning : Meaning} {Own : State → List Happening → Type 0} {old new : History}
    → KeepsIdle Own → tickets_of (state_of old).children ≡ [] → AddsEvents meaning Own old new
    → AddsAlone meaning Own old new
adds_alone {meaning} {Own} {old} {new} keeps idle adds =
    let state = state_of old in
    let none = no_tickets state.children idle in
    let early : adds.early ≡ [] =
    no_steps meaning state adds.early (adds.own ++ adds.late) none adds.early_steps
    adds.lawful in
    let is_own : Own state adds.own =
    subst (λ l. Own (after_all state l) adds.own) early adds.is_own in
    let may : MayAll meaning state (adds.own ++ adds.late) =
    subst (λ l. MayAll meaning state (l ++ (adds.own ++ adds.late))) early adds.lawful in
    let then_may = MayAll-parts meaning state adds.own adds.late may in
    let late : adds.late ≡ [] =
    no_steps meaning (after_all state adds.own) adds.late []
    (keeps state adds.own is_own none) adds.late_steps
    (subst (MayAll meaning (after_all state adds.own)) (sym (append-nil adds.late))
    then_may.1) in record {
      own = adds.own;
      base = adds.base;
      events = adds.events
          ∙ ap (λ l. old.events ++ (l ++ (adds.own ++ adds.late))) early
          ∙ ap (λ l. old.events ++ (adds.own ++ l)) late
          ∙ ap (λ l. old.events ++ l) (append-nil adds.own);
      lawful = then_may.0;
      is_own = is_own;
    }

looked_alone : {meaning : Meaning} {path : List ℕ} {found : Option (List ℕ)} {old new : History}
    → tickets_of (state_of old).children ≡ []
    → AddsEvents meaning (OwnRead path found) old new → Looked path found old new
looked_alone {meaning} {path} {found} {old} {new} idle adds =
    let alone = adds_alone
    (λ state own is none. subst (λ l. (after_all state l).children ≡ []) (sym is.0) none)
    idle adds in record {
      base = alone.base;
      event = alone.events ∙ ap (λ l. old.events ++ l) alone.is_own.0;
      answered = alone.is_own.1;
    }

listed_alone : {meaning : Meaning} {dir : List ℕ} {names : Option (List (List ℕ))} {old new : History}
    → tickets_of (state_of old).children ≡ []
    → AddsEvents meaning (OwnList dir names) old new → Listed dir names old new
listed_alone {meaning} {dir} {names} {old} {new} idle adds =
    let alone = adds_alone
    (λ state own is none. subst (λ l. (after_all state l).children ≡ []) (sym is.0) none)
    idle adds in record {
      base = alone.base;
      event = alone.events ∙ ap (λ l. old.events ++ l) alone.is_own.0;
      listed = alone.is_own.1;
    }

nothing_alone : {meaning : Meaning} {old new : History}
    → tickets_of (state_of old).children ≡ [] → AddsEvents meaning OwnNothing old new
    → Same old new
nothing_alone {meaning} {old} {new} idle adds =
    let alone = adds_alone
    (λ state own is none. subst (λ l. (after_all state l).children ≡ []) (sym is) none)
    idle adds in record {
      base = alone.base;
      events = alone.events ∙ ap (λ l. old.events ++ l) alone.is_own
          ∙ append-nil old.events;
    }

-- a look of a world that runs no child
pub looked_idle : (meaning : Meaning) (path : List ℕ) (found : Option (List ℕ))
    (before after : Option History) → IsIdle before
    → Adds meaning before after (OwnRead path found) → Told before after (Looked path found)
looked_idle meaning path found before None idle adds = tt
looked_idle meaning path found None (Some new) idle adds = absurd adds
looked_idle meaning path found (Some old) (Some new) idle adds = looked_alone (idle old refl) adds

-- a directory that is listed by a world that runs no child
pub listed_idle : (meaning : Meaning) (dir : List ℕ) (names : Option (List (List ℕ)))
    (before after : Option History) → IsIdle before
    → Adds meaning before after (OwnList dir names) → Told before after (Listed dir names)
listed_idle meaning dir names before None idle adds = tt
listed_idle meaning dir names None (Some new) idle adds = absurd adds
listed_idle meaning dir names (Some old) (Some new) idle adds = listed_alone (idle old refl) adds

-- a refused call of a world that runs no child
pub same_idle : (meaning : Meaning) (before after : Option History) → IsIdle before
    → Adds meaning before after OwnNothing → Told before after Same
same_idle meaning before None idle adds = tt
same_idle meaning None (Some new) idle adds = absurd adds
same_idle meaning (Some old) (Some new) idle adds = nothing_alone (idle old refl) adds

-- a fact that holds on any files, where no call was made
pub OnFiles-any : (before : Option History) (Fact : Store → Type 0)
    → ((files : Store) → Fact files) → OnFiles before before Fact
OnFiles-any None Fact holds = record { files = λ _. None; told = tt; fact = holds (λ _. None) }
OnFiles-any (Some old) Fact holds =
    record { files = files_of old; told = refl; fact = holds (files_of old) }

-- a fact that holds on any files, behind a call in which nothing happened
pub OnFiles-same : (before after : Option History) (Fact : Store → Type 0) → Told before after Same
    → ((files : Store) → Fact files) → OnFiles before after Fact
OnFiles-same before None Fact same holds =
    record { files = λ _. None; told = tt; fact = holds (λ _. None) }
OnFiles-same None (Some new) Fact same holds = absurd same
OnFiles-same (Some old) (Some new) Fact same holds =
    record { files = files_of old; told = refl; fact = holds (files_of old) }

-- a fact on the answer of a look
pub OnFiles-looked : (before after : Option History) (Fact : Store → Type 0) (path : List ℕ)
    (answer : Option (List ℕ)) → Told before after (Looked path answer)
    → ((files : Store) → answer ≡ files path → Fact files) → OnFiles before after Fact
OnFiles-looked before None Fact path answer looked holds =
    record { files = λ _. answer; told = tt; fact = holds (λ _. answer) refl }
OnFiles-looked None (Some new) Fact path answer looked holds = absurd looked
OnFiles-looked (Some old) (Some new) Fact path answer looked holds =
    record { files = files_of old; told = refl; fact = holds (files_of old) looked.answered }

-- a weaker fact
pub OnFiles-map : (before after : Option History) (Fact Weaker : Store → Type 0)
    → OnFiles before after Fact → ((files : Store) → Fact files → Weaker files)
    → OnFiles before after Weaker
OnFiles-map before after Fact Weaker on weaken =
    record { files = on.files; told = on.told; fact = weaken on.files on.fact }

pub LooksAt-none : (before : Option History) (path : List ℕ) → Told before before (LooksAt path)
LooksAt-none None path = tt
LooksAt-none (Some old) path = record { base = refl; events = inl refl }

pub LooksAt-same : (before after : Option History) (path : List ℕ) → Told before after Same
    → Told before after (LooksAt path)
LooksAt-same before None path same = tt
LooksAt-same None (Some new) path same = absurd same
LooksAt-same (Some old) (Some new) path same = record { base = same.base; events = inl same.events }

pub LooksAt-looked : (before after : Option History) (path : List ℕ) (answer : Option (List ℕ))
    → Told before after (Looked path answer) → Told before after (LooksAt path)
LooksAt-looked before None path answer looked = tt
LooksAt-looked None (Some new) path answer looked = absurd looked
LooksAt-looked (Some old) (Some new) path answer looked =
    record { base = looked.base; events = inr looked.event }
