-- What single questions leave in a world that runs no child.
use Rattle.std.proofs.Common.{◌≡◌, ℕ, List, [], ◌∷◌, ◌++◌, Option, Some, None}
use Rattle.std.proofs.Common.{refl, sym, ap, subst, ◌∙◌}
use Rattle.std.proofs.lemmas.List.{append-nil, map-append}
use Rattle.mk_values.specs.declared.facts.Asked.{Asked}
use Rattle.mk_world.specs.Calls.{Adds, AddsEvents, OwnNothing, OwnTime}
use Rattle.mk_world.specs.History.{after_all, state_of, tickets_of}
use Rattle.mk_world.specs.Looks.{DatesOnce}
use Rattle.mk_world.specs.Runs.{Same}
use Rattle.mk_world.specs.Talks.{Meaning}
use Rattle.mk_world.specs.Told.{Told}
use Rattle.mk_world.specs.declared.history.History.{History}
use Rattle.mk_world.specs.declared.time.When.{When}
use Rattle.mk_world.proofs.IdleLemmas.{IsIdle, adds_alone, same_idle}
use Rattle.mk_makefile.specs.Leads.{Led}
use Rattle.mk_makefile.specs.Notes.{asked_by, question_of, questions_in}
use Rattle.mk_makefile.specs.Questions.{AreAsked, AreTimes, IsAsked, Question, bytes_of, cut, cuts_in, listings_in, names_of, output_of, readings_in, runnings_in, time_of, times_in}
use Rattle.mk_makefile.specs.Questions.{times_in-append}
use Rattle.mk_makefile.specs.declared.note.Note.{Note}

same_history : (old new : History) → Same old new → new ≡ old
same_history old new same = rw (same.base, same.events) refl

timed_alone : {meaning : Meaning} {path : List ℕ} {when : When} {old new : History}
    → tickets_of (state_of old).children ≡ []
    → AddsEvents meaning (OwnTime path when) old new
    → DatesOnce (record { path = path; when = when }) old new
timed_alone {meaning} {path} {when} {old} {new} idle adds =
    let alone = adds_alone
    (λ state own is none. subst (λ l. (after_all state l).children ≡ []) (sym is.0) none)
    idle adds in
    record {
      base = alone.base;
      event = alone.events ∙ ap (λ l. old.events ++ l) alone.is_own.0;
      told = alone.is_own.1;
    }

-- a question about a time
pub timed_idle : (meaning : Meaning) (path : List ℕ) (when : When) (before after : Option History)
    → IsIdle before → Adds meaning before after (OwnTime path when)
    → Told before after (DatesOnce (record { path = path; when = when }))
timed_idle meaning path when before None idle adds = tt
timed_idle meaning path when None (Some new) idle adds = absurd adds
timed_idle meaning path when (Some old) (Some new) idle adds = timed_alone (idle old refl) adds

pub told_one : (meaning : Meaning) (question : Question) (before after : Option History)
    → Told before after (IsAsked meaning question)
    → Told before after (AreAsked meaning (question ∷ []))
told_one meaning question before None asked = tt
told_one meaning question None (Some new) asked = absurd asked
told_one meaning question (Some old) (Some new) asked = (new, asked, refl)

-- one question, which was noted
pub led_once : (meaning : Meaning) (idle : Type 0) (before after : Option History)
    (old new : List Note) (note : Note)
    → new ≡ old ++ note ∷ []
    → AreTimes (questions_in (note ∷ []))
    → (idle → Told before after (IsAsked meaning (question_of note)))
    → Led meaning idle before after old new
led_once meaning idle before after old new note is times told = record {
  more = note ∷ [];
  added = is;
  times = times;
  told = λ i. told_one meaning (question_of note) before after (told i);
}

pub told_nothing : (meaning : Meaning) (before after : Option History) → Told before after Same
    → Told before after (AreAsked meaning [])
told_nothing meaning before None same = tt
told_nothing meaning None (Some new) same = absurd same
told_nothing meaning (Some old) (Some new) same = same_history old new same

-- a refused call
pub led_refused : (meaning : Meaning) (idle : Type 0) (before after : Option History)
    (old new : List Note) → new ≡ old → (idle → IsIdle before)
    → Adds meaning before after OwnNothing
    → Led meaning idle before after old new
led_refused meaning idle before after old new is none adds = record {
  more = [];
  added = is ∙ sym (append-nil old);
  times = tt;
  told = λ is. told_nothing meaning before after (same_idle meaning before after (none is) adds);
}

-- one note more
pub asked_by-push : (notes more : List Note) (note : Note) (asked : List Asked)
    → more ≡ notes ++ note ∷ [] → times_in (questions_in (note ∷ [])) ≡ asked
    → asked_by more ≡ asked_by notes ++ asked
asked_by-push notes more note asked is one =
    ap asked_by is
    ∙ ap times_in (map-append question_of notes (note ∷ []))
    ∙ times_in-append (questions_in notes) (questions_in (note ∷ []))
    ∙ ap (λ l. asked_by notes ++ l) one

-- questions of `exists` ask for no bytes, no directory and no command

pub readings_in-none : (questions : List Question) → AreTimes questions → readings_in questions ≡ []
readings_in-none [] times = refl
readings_in-none (bytes_of path found ∷ more) times = absurd times
readings_in-none (time_of path when ∷ more) times = readings_in-none more times
readings_in-none (names_of dir names ∷ more) times = absurd times
readings_in-none (output_of cmd ended ∷ more) times = absurd times
readings_in-none (cut cmd ∷ more) times = absurd times

pub listings_in-none : (questions : List Question) → AreTimes questions → listings_in questions ≡ []
listings_in-none [] times = refl
listings_in-none (bytes_of path found ∷ more) times = absurd times
listings_in-none (time_of path when ∷ more) times = listings_in-none more times
listings_in-none (names_of dir names ∷ more) times = absurd times
listings_in-none (output_of cmd ended ∷ more) times = absurd times
listings_in-none (cut cmd ∷ more) times = absurd times

pub runnings_in-none : (questions : List Question) → AreTimes questions → runnings_in questions ≡ []
runnings_in-none [] times = refl
runnings_in-none (bytes_of path found ∷ more) times = absurd times
runnings_in-none (time_of path when ∷ more) times = runnings_in-none more times
runnings_in-none (names_of dir names ∷ more) times = absurd times
runnings_in-none (output_of cmd ended ∷ more) times = absurd times
runnings_in-none (cut cmd ∷ more) times = absurd times

pub cuts_in-none : (questions : List Question) → AreTimes questions → cuts_in questions ≡ []
cuts_in-none [] times = refl
cuts_in-none (bytes_of path found ∷ more) times = absurd times
cuts_in-none (time_of path when ∷ more) times = cuts_in-none more times
cuts_in-none (names_of dir names ∷ more) times = absurd times
cuts_in-none (output_of cmd ended ∷ more) times = absurd times
cuts_in-none (cut cmd ∷ more) times = absurd times
