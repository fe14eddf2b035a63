-- What is answered where the files stay as they are.
use Rattle.std.proofs.Common.{◌≡◌, ℕ, zero, suc, not, List, [], ◌∷◌, ◌++◌, Option, Some, None, is_some, slice_get}
use Rattle.std.proofs.Common.{refl, ap, subst, ◌∙◌}
use Rattle.std.specs.Option.{option_map}
use Rattle.mk_values.specs.declared.facts.Asked.{Asked}
use Rattle.mk_makefile.specs.Questions.{Answered, AreAsked, IsAsked, Listing, Question, Reading, Running}
use Rattle.mk_makefile.specs.Questions.{bytes_of, cut, names_of, output_of, time_of}
use Rattle.mk_makefile.specs.Questions.{cuts_in, listings_in, readings_in, runnings_in, times_in}
use Rattle.mk_world.proofs.CallLemmas.{after_all-append}
use Rattle.mk_world.proofs.ListingLemmas.{one-listing}
use Rattle.mk_world.specs.Calls.{when_of}
use Rattle.mk_world.specs.Deeds.{Store}
use Rattle.mk_world.specs.History.{Filed, after_all, contents, files_of, first_state, state_of}
use Rattle.mk_world.specs.Listings.{Lists}
use Rattle.mk_world.specs.Looks.{is_missing}
use Rattle.mk_world.specs.Talks.{Meaning, after_doing, does}
use Rattle.mk_world.specs.declared.history.Happening.TheVariants.{Look}
use Rattle.mk_world.specs.declared.history.History.{History}
use Rattle.mk_reader.specs.OnMaps.{AreOfTheMap, LeaveAll, Listings, ReadsTheMap, answers_on}

-- a look changes no file
looked-files : (old new : History) (path : List ℕ) → new.base ≡ old.base
    → new.events ≡ old.events ++ Look path ∷ [] → files_of new ≡ files_of old
looked-files old new path base events =
    ap (λ base. contents (after_all (first_state base) new.events).files) base
    ∙ ap (λ events. contents (after_all (first_state old.base) events).files) events
    ∙ ap (λ s. contents s.files) (after_all-append (first_state old.base) old.events (Look path ∷ []))

-- the files after a question are those before it
kept : (meaning : Meaning) (store : Store) (question : Question) (more : List Question)
    (old mid : History)
    → files_of old ≡ store → IsAsked meaning question old mid → cuts_in (question ∷ more) ≡ []
    → LeaveAll meaning store (runnings_in (question ∷ more))
    → (files_of mid ≡ store) × (cuts_in more ≡ []) × LeaveAll meaning store (runnings_in more)
kept meaning store (bytes_of path found) more old mid is asked none leave =
    (looked-files old mid path asked.base asked.event ∙ is, none, leave)
kept meaning store (time_of path when) more old mid is asked none leave =
    (looked-files old mid path asked.base asked.event ∙ is, none, leave)
kept meaning store (names_of dir names) more old mid is asked none leave =
    (looked-files old mid dir asked.base asked.event ∙ is, none, leave)
kept meaning store (output_of cmd ended) more old mid is asked none leave =
    (asked.ran.files ∙ ap (after_doing meaning cmd) is ∙ leave.0, none, leave.1)
kept meaning store (cut cmd) more old mid is asked none leave = absurd cc

pub files-kept : (meaning : Meaning) (store : Store) (questions : List Question) (old new : History)
    → files_of old ≡ store → AreAsked meaning questions old new → cuts_in questions ≡ []
    → LeaveAll meaning store (runnings_in questions) → files_of new ≡ store
files-kept meaning store [] old new is asked none leave = ap files_of asked ∙ is
files-kept meaning store (question ∷ more) old new is asked none leave =
    let next = kept meaning store question more old asked.0 is asked.1 none leave in
    files-kept meaning store more asked.0 new next.0 asked.2 next.1 next.2

there-of : (file : Option Filed)
    → not (is_missing (when_of file)) ≡ is_some (option_map (λ one. one.bytes) file)
there-of None = refl
there-of (Some file) = refl

timed : (meaning : Meaning) (store : Store) (questions : List Question) (old new : History)
    → files_of old ≡ store → AreAsked meaning questions old new → cuts_in questions ≡ []
    → LeaveAll meaning store (runnings_in questions)
    → (place : ℕ) (one : Asked) → slice_get (times_in questions) place ≡ Some one
    → one.answer ≡ is_some (store one.path)
timed meaning store [] old new is asked none leave place one at = absurd cc
timed meaning store (time_of path when ∷ more) old new is asked none leave zero one at =
    let same : record { path = path; answer = not (is_missing when) } ≡ one = cc in
    subst (λ (it : Asked). it.answer ≡ is_some (store it.path)) same
    (ap (λ when. not (is_missing when)) asked.1.told ∙ there-of ((state_of old).files path)
    ∙ ap (λ (files : Store). is_some (files path)) is)
timed meaning store (time_of path when ∷ more) old new is asked none leave (suc place) one at =
    let next = kept meaning store (time_of path when) more old asked.0 is asked.1 none leave in
    timed meaning store more asked.0 new next.0 asked.2 next.1 next.2 place one at
timed meaning store (bytes_of path found ∷ more) old new is asked none leave place one at =
    let next = kept meaning store (bytes_of path found) more old asked.0 is asked.1 none leave in
    timed meaning store more asked.0 new next.0 asked.2 next.1 next.2 place one at
timed meaning store (names_of dir names ∷ more) old new is asked none leave place one at =
    let next = kept meaning store (names_of dir names) more old asked.0 is asked.1 none leave in
    timed meaning store more asked.0 new next.0 asked.2 next.1 next.2 place one at
timed meaning store (output_of cmd ended ∷ more) old new is asked none leave place one at =
    let next = kept meaning store (output_of cmd ended) more old asked.0 is asked.1 none leave in
    timed meaning store more asked.0 new next.0 asked.2 next.1 next.2 place one at
timed meaning store (cut cmd ∷ more) old new is asked none leave place one at = absurd cc

found_at : (meaning : Meaning) (store : Store) (questions : List Question) (old new : History)
    → files_of old ≡ store → AreAsked meaning questions old new → cuts_in questions ≡ []
    → LeaveAll meaning store (runnings_in questions)
    → (place : ℕ) (one : Reading) → slice_get (readings_in questions) place ≡ Some one
    → one.found ≡ store one.path
found_at meaning store [] old new is asked none leave place one at = absurd cc
found_at meaning store (bytes_of path found ∷ more) old new is asked none leave zero one at =
    let same : record { path = path; found = found } ≡ one = cc in
    subst (λ (it : Reading). it.found ≡ store it.path) same
    (asked.1.answered ∙ ap (λ (files : Store). files path) is)
found_at meaning store (bytes_of path found ∷ more) old new is asked none leave (suc place) one at =
    let next = kept meaning store (bytes_of path found) more old asked.0 is asked.1 none leave in
    found_at meaning store more asked.0 new next.0 asked.2 next.1 next.2 place one at
found_at meaning store (time_of path when ∷ more) old new is asked none leave place one at =
    let next = kept meaning store (time_of path when) more old asked.0 is asked.1 none leave in
    found_at meaning store more asked.0 new next.0 asked.2 next.1 next.2 place one at
found_at meaning store (names_of dir names ∷ more) old new is asked none leave place one at =
    let next = kept meaning store (names_of dir names) more old asked.0 is asked.1 none leave in
    found_at meaning store more asked.0 new next.0 asked.2 next.1 next.2 place one at
found_at meaning store (output_of cmd ended ∷ more) old new is asked none leave place one at =
    let next = kept meaning store (output_of cmd ended) more old asked.0 is asked.1 none leave in
    found_at meaning store more asked.0 new next.0 asked.2 next.1 next.2 place one at
found_at meaning store (cut cmd ∷ more) old new is asked none leave place one at = absurd cc

printed : (meaning : Meaning) (store : Store) (questions : List Question) (old new : History)
    → files_of old ≡ store → AreAsked meaning questions old new → cuts_in questions ≡ []
    → LeaveAll meaning store (runnings_in questions)
    → (place : ℕ) (one : Running) → slice_get (runnings_in questions) place ≡ Some one
    → one.ended.output ≡ (does meaning one.cmd store).output
printed meaning store [] old new is asked none leave place one at = absurd cc
printed meaning store (output_of cmd ended ∷ more) old new is asked none leave zero one at =
    let same : record { cmd = cmd; ended = ended } ≡ one = cc in
    subst (λ (it : Running). it.ended.output ≡ (does meaning it.cmd store).output) same
    (asked.1.answered.output ∙ ap (λ (files : Store). (does meaning cmd files).output) is)
printed meaning store (output_of cmd ended ∷ more) old new is asked none leave (suc place) one at =
    let next = kept meaning store (output_of cmd ended) more old asked.0 is asked.1 none leave in
    printed meaning store more asked.0 new next.0 asked.2 next.1 next.2 place one at
printed meaning store (bytes_of path found ∷ more) old new is asked none leave place one at =
    let next = kept meaning store (bytes_of path found) more old asked.0 is asked.1 none leave in
    printed meaning store more asked.0 new next.0 asked.2 next.1 next.2 place one at
printed meaning store (time_of path when ∷ more) old new is asked none leave place one at =
    let next = kept meaning store (time_of path when) more old asked.0 is asked.1 none leave in
    printed meaning store more asked.0 new next.0 asked.2 next.1 next.2 place one at
printed meaning store (names_of dir names ∷ more) old new is asked none leave place one at =
    let next = kept meaning store (names_of dir names) more old asked.0 is asked.1 none leave in
    printed meaning store more asked.0 new next.0 asked.2 next.1 next.2 place one at
printed meaning store (cut cmd ∷ more) old new is asked none leave place one at = absurd cc

listed_at : (meaning : Meaning) (store : Store) (listings : Listings) (questions : List Question)
    (old new : History)
    → files_of old ≡ store → AreAsked meaning questions old new → cuts_in questions ≡ []
    → LeaveAll meaning store (runnings_in questions)
    → AreOfTheMap store listings (listings_in questions)
    → (place : ℕ) (one : Listing) → slice_get (listings_in questions) place ≡ Some one
    → one.names ≡ listings one.dir
listed_at meaning store listings [] old new is asked none leave right place one at = absurd cc
listed_at meaning store listings (names_of dir names ∷ more) old new is asked none leave right zero one at =
    let same : record { dir = dir; names = names } ≡ one = cc in
    subst (λ (it : Listing). it.names ≡ listings it.dir) same
    (one-listing store dir (listings dir) names right.0
    (subst (λ (files : Store). Lists files dir names) is asked.1.listed))
listed_at meaning store listings (names_of dir names ∷ more) old new is asked none leave right (suc place) one at =
    let next = kept meaning store (names_of dir names) more old asked.0 is asked.1 none leave in
    listed_at meaning store listings more asked.0 new next.0 asked.2 next.1 next.2 right.1 place one at
listed_at meaning store listings (bytes_of path found ∷ more) old new is asked none leave right place one at =
    let next = kept meaning store (bytes_of path found) more old asked.0 is asked.1 none leave in
    listed_at meaning store listings more asked.0 new next.0 asked.2 next.1 next.2 right place one at
listed_at meaning store listings (time_of path when ∷ more) old new is asked none leave right place one at =
    let next = kept meaning store (time_of path when) more old asked.0 is asked.1 none leave in
    listed_at meaning store listings more asked.0 new next.0 asked.2 next.1 next.2 right place one at
listed_at meaning store listings (output_of cmd ended ∷ more) old new is asked none leave right place one at =
    let next = kept meaning store (output_of cmd ended) more old asked.0 is asked.1 none leave in
    listed_at meaning store listings more asked.0 new next.0 asked.2 next.1 next.2 right place one at
listed_at meaning store listings (cut cmd ∷ more) old new is asked none leave right place one at = absurd cc

answered : (meaning : Meaning) (listings : Listings) (questions : List Question) (old new : History)
    → AreAsked meaning questions old new → cuts_in questions ≡ []
    → LeaveAll meaning (files_of old) (runnings_in questions)
    → AreOfTheMap (files_of old) listings (listings_in questions)
    → Answered (answers_on meaning (files_of old) listings) questions
answered meaning listings questions old new asked none leave right = record {
  exists = timed meaning (files_of old) questions old new refl asked none leave;
  contents = found_at meaning (files_of old) questions old new refl asked none leave;
  listings = listed_at meaning (files_of old) listings questions old new refl asked none leave right;
  outputs = printed meaning (files_of old) questions old new refl asked none leave;
}

pub reads_the_map : ReadsTheMap
reads_the_map meaning old new held held_after answer env order read none leave listings right = (
  read.gave (answers_on meaning (files_of old) listings)
      (answered meaning listings read.questions old new read.asked none leave right),
  files-kept meaning (files_of old) read.questions old new refl read.asked none leave,
)
