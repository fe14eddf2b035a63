-- What reading the makefile of the example gives, and what it asks.
use Rattle.std.proofs.Common.{◌≡◌, ◌∙◌, ℕ, zero, List, [], ◌∷◌, ◌++◌, map, Bool, false, Option, Some, None, slice_get}
use Rattle.std.proofs.Common.{refl, sym, ap, subst, append_assoc}
use Rattle.std.proofs.lemmas.List.{append-nil}
use Rattle.std.specs.List.{AllByRecursion}
use Rattle.mk_blocks.specs.Acts.{Act, wrote, looked, dated, listed, ran}
use Rattle.mk_values.specs.declared.facts.Asked.{Asked}
use Rattle.mk_makefile.specs.Acts.{acts_of}
use Rattle.mk_makefile.specs.Questions.{Answered, Answers, AreAsked, Listing, Question, Reading, Running, bytes_of, cut, names_of, output_of, time_of, listings_in, readings_in, runnings_in, times_in}
use Rattle.mk_trace.specs.TrueBuilds.{LeavesFiles, longer}
use Rattle.mk_world.proofs.CallLemmas.{after_all-append}
use Rattle.mk_world.specs.History.{State as Stand, after, after_all, contents, files_of, first_state, state_of}
use Rattle.mk_world.specs.Looks.{OnlyLooks}
use Rattle.mk_world.specs.Talks.{Meaning}
use Rattle.mk_world.specs.declared.history.Happening.TheVariants.{Look}
use Rattle.mk_world.specs.declared.history.Happening.{Happening}
use Rattle.mk_world.specs.declared.history.History.{History}

-- answers that agree with these questions

abbrev told_in : Option Asked → Bool
told_in None = false
told_in (Some one) = one.answer

abbrev pub found_in : Option Reading → Option (List ℕ)
found_in None = None
found_in (Some one) = one.found

abbrev listed_in : Option Listing → Option (List (List ℕ))
listed_in None = None
listed_in (Some one) = one.names

abbrev printed_in : Option Running → List ℕ
printed_in None = []
printed_in (Some one) = one.ended.output

abbrev pub agreeing : List Question → Answers
agreeing questions = record {
  exists = λ place path. told_in (slice_get (times_in questions) place);
  contents = λ place path. found_in (slice_get (readings_in questions) place);
  listings = λ place dir. listed_in (slice_get (listings_in questions) place);
  outputs = λ place cmd. printed_in (slice_get (runnings_in questions) place);
}

pub agrees : (questions : List Question) → Answered (agreeing questions) questions
agrees questions = record {
  exists = λ place one is. sym (ap told_in is);
  contents = λ place one is. sym (ap found_in is);
  listings = λ place one is. sym (ap listed_in is);
  outputs = λ place one is. sym (ap printed_in is);
}

-- what is asked of the world

look-files : (old new : History) (path : List ℕ) → new.base ≡ old.base
    → new.events ≡ old.events ++ Look path ∷ [] → files_of new ≡ files_of old
look-files old new path base events =
    ap (λ base. contents (after_all (first_state base) new.events).files) base
    ∙ ap (λ events. contents (after_all (first_state old.base) events).files) events
    ∙ ap (λ s. contents s.files) (after_all-append (first_state old.base) old.events (Look path ∷ []))

-- the first file that is asked for is answered with what stands there
pub first-found : (meaning : Meaning) (questions : List Question) (old new : History) (path : List ℕ) (acts : List Act)
    → AreAsked meaning questions old new → acts_of questions ≡ looked path ∷ acts
    → found_in (slice_get (readings_in questions) zero) ≡ files_of old path
first-found meaning [] old new path acts asked is = absurd cc
first-found meaning (bytes_of at found ∷ more) old new path acts asked is =
    let same : at ≡ path = cc in asked.1.answered ∙ ap (files_of old) same
first-found meaning (time_of at when ∷ more) old new path acts asked is = absurd cc
first-found meaning (names_of dir names ∷ more) old new path acts asked is = absurd cc
first-found meaning (output_of cmd ended ∷ more) old new path acts asked is = absurd cc
first-found meaning (cut cmd ∷ more) old new path acts asked is = absurd cc

-- where no command was run, nothing but looks happened
pub record IsQuiet (old new : History) : Type 0 where
  pub events : List Happening
  pub base : new.base ≡ old.base
  pub longer_is : new.events ≡ old.events ++ events
  pub leave : AllByRecursion LeavesFiles events
  pub files : files_of new ≡ files_of old

abbrev pub IsLooked : Act → Type 0
IsLooked (looked path) = Unit {0}
IsLooked (dated path) = Unit {0}
IsLooked (listed dir) = Unit {0}
IsLooked (ran cmd) = ⊥
IsLooked (wrote message) = ⊥

quiet-look : (old mid new : History) (path : List ℕ) → mid.base ≡ old.base
    → mid.events ≡ old.events ++ Look path ∷ [] → IsQuiet mid new → IsQuiet old new
quiet-look old mid new path base events quiet = record {
  events = Look path ∷ quiet.events;
  base = quiet.base ∙ base;
  longer_is = quiet.longer_is ∙ (ap (λ l. l ++ quiet.events) events
      ∙ append_assoc old.events (Look path ∷ []) quiet.events);
  leave = (tt, quiet.leave);
  files = quiet.files ∙ look-files old mid path base events;
}

pub asked-quiet : (meaning : Meaning) (questions : List Question) (old new : History)
    → AllByRecursion IsLooked (acts_of questions) → AreAsked meaning questions old new → IsQuiet old new
asked-quiet meaning [] old new all asked = record {
  events = [];
  base = ap (λ (h : History). h.base) asked;
  longer_is = ap (λ (h : History). h.events) asked ∙ sym (append-nil old.events);
  leave = tt;
  files = ap files_of asked;
}
asked-quiet meaning (bytes_of path found ∷ more) old new all asked =
    quiet-look old asked.0 new path asked.1.base asked.1.event
    (asked-quiet meaning more asked.0 new all.1 asked.2)
asked-quiet meaning (time_of path when ∷ more) old new all asked =
    quiet-look old asked.0 new path asked.1.base asked.1.event
    (asked-quiet meaning more asked.0 new all.1 asked.2)
asked-quiet meaning (names_of dir names ∷ more) old new all asked =
    quiet-look old asked.0 new dir asked.1.base asked.1.event
    (asked-quiet meaning more asked.0 new all.1 asked.2)
asked-quiet meaning (output_of cmd ended ∷ more) old new all asked = absurd all.0
asked-quiet meaning (cut cmd ∷ more) old new all asked = absurd all.0

paths-leave : (paths : List (List ℕ)) → AllByRecursion LeavesFiles (map (λ path. Look path) paths)
paths-leave [] = tt
paths-leave (path ∷ paths) = (tt, paths-leave paths)

paths-files : (state : Stand) (paths : List (List ℕ))
    → (after_all state (map (λ path. Look path) paths)).files ≡ state.files
paths-files state [] = refl
paths-files state (path ∷ paths) = paths-files (after state (Look path)) paths

looks-files : (old new : History) → OnlyLooks old new → files_of new ≡ files_of old
looks-files old new only =
    ap (λ base. contents (after_all (first_state base) new.events).files) only.base
    ∙ ap (λ events. contents (after_all (first_state old.base) events).files) only.events
    ∙ ap (λ s. contents s.files)
    (after_all-append (first_state old.base) old.events (map (λ path. Look path) only.looks))
    ∙ ap contents (paths-files (state_of old) only.looks)

all-append : {A : Type 0} (P : A → Type 0) (items more : List A) → AllByRecursion P items
    → AllByRecursion P more → AllByRecursion P (items ++ more)
all-append P [] more all then_all = then_all
all-append P (item ∷ items) more all then_all = (all.0, all-append P items more all.1 then_all)

pub quiet-looks : (old mid new : History) → IsQuiet old mid → OnlyLooks mid new → IsQuiet old new
quiet-looks old mid new quiet only = record {
  events = quiet.events ++ map (λ path. Look path) only.looks;
  base = only.base ∙ quiet.base;
  longer_is = only.events ∙ (ap (λ l. l ++ map (λ path. Look path) only.looks) quiet.longer_is
      ∙ append_assoc old.events quiet.events (map (λ path. Look path) only.looks));
  leave = all-append LeavesFiles quiet.events _ quiet.leave (paths-leave only.looks);
  files = looks-files mid new only ∙ quiet.files;
}

cancel-front : {A : Type 0} (front one other : List A) → front ++ one ≡ front ++ other → one ≡ other
cancel-front [] one other same = same
cancel-front (item ∷ front) one other same =
    let rest : front ++ one ≡ front ++ other = cc in cancel-front front one other rest

-- these looks are all that happened
pub quiet-leaves : (old new : History) → IsQuiet old new → (asked : List Happening) → new ≡ longer old asked
    → AllByRecursion LeavesFiles asked
quiet-leaves old new quiet asked is =
    subst (AllByRecursion LeavesFiles)
    (cancel-front old.events quiet.events asked
    (sym quiet.longer_is ∙ ap (λ (h : History). h.events) is)) quiet.leave
