-- What a run does that changes no file.
use Rattle.std.proofs.Common.{◌≡◌, ◌∙◌, ℕ, Bool, true, false, List, [], ◌∷◌, ◌++◌, map, Option, Some, None, Result, Ok, Err, if◌then◌else◌}
use Rattle.std.proofs.Common.{inl, inr, refl, sym, ap, subst, append_assoc}
use Rattle.std.proofs.lemmas.Bool.{false≢true}
use Rattle.std.proofs.lemmas.List.{append-nil}
use Rattle.std.specs.List.{AllByRecursion}
use Rattle.mk_answers.proofs.FileLemmas.{looked-files, same-files, unchanged}
use Rattle.mk_answers.specs.OnFiles.{ChangesNone}
use Rattle.mk_cli.specs.declared.order.Order.{Order}
use Rattle.mk_cli.specs.declared.order.Print.{Print}
use Rattle.mk_flags.specs.declared.Flags.{Flags}
use Rattle.mk_graph.specs.declared.Made.{Made}
use Rattle.mk_makefile.specs.Acts.{acts_of}
use Rattle.mk_makefile.specs.Questions.{AreAsked, Question, bytes_of, cut, names_of, output_of, time_of}
use Rattle.mk_makefile.specs.declared.fault.ReadFault.{ReadFault}
use Rattle.mk_meta.specs.TrueHistory.{changed_paths}
use Rattle.mk_modes.specs.Auditing.{Audits, ChangesNoFile}
use Rattle.mk_modes.specs.Building.{IsUnplanned, Point}
use Rattle.mk_modes.specs.Explaining.{Explanation}
use Rattle.mk_modes.specs.Meaning.{Meant, only, prints, audits, explains, queries, shows, builds, by_mode, by_reading}
use Rattle.mk_modes.specs.Modes.{Goes}
use Rattle.mk_modes.specs.Querying.{Queries}
use Rattle.mk_modes.specs.declared.building.Went.{Went}
use Rattle.mk_plan.proofs.LookLemmas.{ByLooks-told}
use Rattle.mk_query.specs.Looks.{Saw, look_of}
use Rattle.mk_reader.specs.OnMaps.{Listings}
use Rattle.mk_run.proofs.TrueRunLemmas.{told-at, told-before}
use Rattle.mk_run.specs.TrueRuns.{Built, build, built_in, dry}
use Rattle.mk_trace.proofs.AlongLemmas.{all-append}
use Rattle.mk_scopes.specs.declared.scopes.Env.{Env}
use Rattle.mk_trace.specs.Items.{path_of}
use Rattle.mk_trace.specs.TrueBuilds.{LeavesFiles}
use Rattle.mk_world.proofs.CallLemmas.{after_all-append}
use Rattle.mk_world.specs.Deeds.{Store, changes}
use Rattle.mk_world.specs.History.{Effect, State as Stand, after_all, at_time, contents, files_of, first_state, state_of, timed_effects}
use Rattle.mk_world.specs.Looks.{Dated, DatesAll, OnlyLooks, Seen}
use Rattle.mk_world.specs.Runs.{Ran, Same}
use Rattle.mk_world.specs.Talks.{Meaning, after_doing, does}
use Rattle.mk_world.specs.declared.command.Cmd.{Cmd}
use Rattle.mk_world.specs.declared.history.Happening.{Happening}
use Rattle.mk_world.specs.declared.history.Happening.TheVariants.{Look, Ask}
use Rattle.mk_world.specs.declared.history.History.{History}
use Rattle.mk_world.specs.declared.history.Timed.{Timed}
use Rattle.mk_world.specs.declared.step.Deed.{Deed}
use Rattle.mk_world.specs.declared.step.Deed.TheVariants as deed

-- What changes no path has no effect.

no-change : (time : ℕ) (one : Deed) (deeds : List Deed) → changed_paths (one ∷ deeds) ≡ []
    → (at_time time (changes one) ≡ []) × (changed_paths deeds ≡ [])
no-change time (deed.Read path bytes) deeds none = (refl, none)
no-change time (deed.Miss path) deeds none = (refl, none)
no-change time (deed.Write path bytes) deeds none = absurd cc
no-change time (deed.Delete path) deeds none = absurd cc
no-change time (deed.Move from to bytes) deeds none = absurd cc

no-effect : (steps : List Timed) → changed_paths (map (λ step. step.deed) steps) ≡ [] → timed_effects steps ≡ []
no-effect [] none = refl
no-effect (step ∷ steps) none =
    let parts = no-change step.time step.deed (map (λ it. it.deed) steps) none in
    ap (λ (l : List Effect). l ++ timed_effects steps) parts.0 ∙ no-effect steps parts.1

-- What happened changed no file, which are these, not even to what it held.
pub record Left (meaning : Meaning) (store : Store) (old new : History) : Type 0 where
  pub events : List Happening
  pub longer_is : new.events ≡ old.events ++ events
  pub leave : AllByRecursion LeavesFiles events
  pub files : files_of new ≡ store

left-then : (meaning : Meaning) (store : Store) (old mid new : History) (event : Happening)
    → mid.events ≡ old.events ++ event ∷ [] → LeavesFiles event → Left meaning store mid new
    → Left meaning store old new
left-then meaning store old mid new event is leaves rest = record {
  events = event ∷ rest.events;
  longer_is = rest.longer_is
      ∙ (ap (λ (l : List Happening). l ++ rest.events) is ∙ append_assoc old.events (event ∷ []) rest.events);
  leave = (leaves, rest.leave);
  files = rest.files;
}

-- a command that changes no file, and what is left behind it
ran-then : (meaning : Meaning) (store : Store) (cmd : Cmd) (old mid new : History) → files_of old ≡ store
    → changed_paths (does meaning cmd store).deeds ≡ [] → Ran meaning cmd old mid
    → (files_of mid ≡ store → Left meaning store mid new) → Left meaning store old new
ran-then meaning store cmd old mid new is none ran rest =
    left-then meaning store old mid new (Ask cmd ran.steps) ran.event
    (no-effect ran.steps
    (ap changed_paths ran.lawful.1
    ∙ (ap (λ files. changed_paths (does meaning cmd files).deeds) is ∙ none)))
    (rest (ran.files ∙ (ap (after_doing meaning cmd) is ∙ unchanged store (does meaning cmd store).deeds none)))

same-then : (meaning : Meaning) (store : Store) (old mid new : History) → Same old mid → Left meaning store mid new
    → Left meaning store old new
same-then meaning store old mid new same rest = record {
  events = rest.events;
  longer_is = rest.longer_is ∙ ap (λ (l : List Happening). l ++ rest.events) same.events;
  leave = rest.leave;
  files = rest.files;
}

pub questions-left : (meaning : Meaning) (store : Store) (listings : Listings) (questions : List Question)
    (old new : History) → files_of old ≡ store → AreAsked meaning questions old new
    → AllByRecursion (ChangesNone meaning store listings) (acts_of questions) → Left meaning store old new
questions-left meaning store listings [] old new is asked change = record {
  events = [];
  longer_is = ap (λ (h : History). h.events) asked ∙ sym (append-nil old.events);
  leave = tt;
  files = ap files_of asked ∙ is;
}
questions-left meaning store listings (bytes_of path found ∷ more) old new is asked change =
    left-then meaning store old asked.0 new (Look path) asked.1.event tt
    (questions-left meaning store listings more asked.0 new
    (looked-files old asked.0 path asked.1.base asked.1.event ∙ is) asked.2 change.1)
questions-left meaning store listings (time_of path when ∷ more) old new is asked change =
    left-then meaning store old asked.0 new (Look path) asked.1.event tt
    (questions-left meaning store listings more asked.0 new
    (looked-files old asked.0 path asked.1.base asked.1.event ∙ is) asked.2 change.1)
questions-left meaning store listings (names_of dir names ∷ more) old new is asked change =
    left-then meaning store old asked.0 new (Look dir) asked.1.event tt
    (questions-left meaning store listings more asked.0 new
    (looked-files old asked.0 dir asked.1.base asked.1.event ∙ is) asked.2 change.1)
questions-left meaning store listings (output_of cmd ended ∷ more) old new is asked change =
    ran-then meaning store cmd old asked.0 new is change.0 asked.1.ran
    (λ files. questions-left meaning store listings more asked.0 new files asked.2 change.1)
questions-left meaning store listings (cut cmd ∷ more) old new is (mid, inl same, rest) change =
    same-then meaning store old mid new same
    (questions-left meaning store listings more mid new (same-files old mid same ∙ is) rest change.1)
questions-left meaning store listings (cut cmd ∷ more) old new is (mid, inr ran, rest) change =
    ran-then meaning store cmd old mid new is change.0 ran
    (λ files. questions-left meaning store listings more mid new files rest change.1)

-- looks change no file
pub after-looks : (state : Stand) (paths : List (List ℕ))
    → (after_all state (map (λ path. Look path) paths)).files ≡ state.files
after-looks state [] = refl
after-looks state (path ∷ paths) = after-looks _ paths

looks-files : (old new : History) → OnlyLooks old new → files_of new ≡ files_of old
looks-files old new looked =
    ap (λ base. contents (after_all (first_state base) new.events).files) looked.base
    ∙ ap (λ events. contents (after_all (first_state old.base) events).files) looked.events
    ∙ ap (λ (s : Stand). contents s.files)
    (after_all-append (first_state old.base) old.events (map (λ path. Look path) looked.looks))
    ∙ ap contents (after-looks (state_of old) looked.looks)

pub looks-leave : (paths : List (List ℕ)) → AllByRecursion LeavesFiles (map (λ path. Look path) paths)
looks-leave [] = tt
looks-leave (path ∷ paths) = (tt, looks-leave paths)

-- what make does behind the reading

module _ (meaning : Meaning) (store : Store) (old : History) where
  left-same : (mid new : History) → Left meaning store old mid → Same mid new → Left meaning store old new
  left-same mid new left same = record {
    events = left.events;
    longer_is = same.events ∙ left.longer_is;
    leave = left.leave;
    files = same-files mid new same ∙ left.files;
  }

  left-looks : (mid new : History) → Left meaning store old mid → OnlyLooks mid new → Left meaning store old new
  left-looks mid new left looked = record {
    events = left.events ++ map (λ path. Look path) looked.looks;
    longer_is = looked.events
        ∙ (ap (λ (l : List Happening). l ++ map (λ path. Look path) looked.looks) left.longer_is
        ∙ append_assoc old.events left.events (map (λ path. Look path) looked.looks));
    leave = all-append LeavesFiles left.events (map (λ path. Look path) looked.looks) left.leave
        (looks-leave looked.looks);
    files = looks-files mid new looked ∙ left.files;
  }

  left-dates : (looks : List Dated) (mid new : History) → Left meaning store old mid → DatesAll looks mid new
      → Left meaning store old new
  left-dates [] mid new left are = subst (Left meaning store old) (sym are) left
  left-dates (one ∷ more) mid new left are =
      left-dates more are.0 new
      (left-looks mid are.0 left (record { looks = one.path ∷ []; base = are.1.base; events = are.1.event })) are.2

  seen-looks : (seen : List Seen) → map look_of seen ≡ map (λ path. Look path) (map path_of seen)
  seen-looks [] = refl
  seen-looks (one ∷ seen) = ap (λ (l : List Happening). look_of one ∷ l) (seen-looks seen)

  left-saw : (seen : List Seen) (mid new : History) → Left meaning store old mid → Saw seen mid new
      → Left meaning store old new
  left-saw seen mid new left saw =
      left-looks mid new left (record {
        looks = map path_of seen;
        base = saw.base;
        events = saw.events ∙ ap (λ (l : List Happening). mid.events ++ l) (seen-looks seen);
      })

  left-unplanned : (made : Made) (requested : List (List ℕ)) (query : Bool) (first last : Point) (went : Went)
      (read new : History) → Left meaning store old read → first.history ≡ Some read → last.history ≡ Some new
      → IsUnplanned made requested query first last went → Left meaning store old new
  left-unplanned made requested query first last went read new left at is unplanned =
      left-looks read new left (told-at _ at is (ByLooks-told unplanned.refused)).0

  left-none : (mid new : History) → Left meaning store old mid → ChangesNoFile mid new → Left meaning store old new
  left-none mid new left none = record {
    events = left.events ++ none.happened;
    longer_is = none.longer
        ∙ (ap (λ (l : List Happening). l ++ none.happened) left.longer_is
        ∙ append_assoc old.events left.events none.happened);
    leave = all-append LeavesFiles left.events none.happened left.leave none.leave;
    files = none.files ∙ left.files;
  }

  left-audited : (env : Env) (made : Made) (order : Order) (first last : Point) (went : Went) (read new : History)
      → Left meaning store old read → first.history ≡ Some read → last.history ≡ Some new
      → Audits meaning env made order first last went → Left meaning store old new
  left-audited env made order first last went read new left at is (inl unplanned) =
      left-unplanned made order.flags.requested false first last went read new left at is unplanned
  left-audited env made order first last went read new left at is (inr audited) =
      found audited.audited_at refl audited.planned_at refl
    where
      found : (audited_at : Option History) → audited.audited_at ≡ audited_at → (planned_at : Option History)
          → audited.planned_at ≡ planned_at → Left meaning store old new
      found None there planned_at here = absurd (told-before _ there is audited.left)
      found (Some then_is) there None here = absurd (told-before _ here there audited.looked)
      found (Some then_is) there (Some planned_then) here =
          left-none then_is new
          (left-looks planned_then then_is
          (left-looks read planned_then left (told-at _ at here (ByLooks-told audited.planned)).0)
          (told-at _ here there audited.looked).0)
          (told-at _ there is audited.left)

  left-explained : (made : Made) (flags : Flags) (first last : Point) (went : Went) (read new : History)
      → Left meaning store old read → first.history ≡ Some read → last.history ≡ Some new
      → Explanation meaning made flags first last went → Left meaning store old new
  left-explained made flags first last went read new left at is (inl unplanned) =
      left-unplanned made flags.requested false first last went read new left at is unplanned
  left-explained made flags first last went read new left at is (inr explained) = planned explained.planned_at refl
    where
      planned : (planned_at : Option History) → explained.planned_at ≡ planned_at → Left meaning store old new
      planned None here = absurd (told-before _ here is explained.looked)
      planned (Some then_is) here =
          left-looks then_is new
          (left-looks read then_is left (told-at _ at here (ByLooks-told explained.planned)).0)
          (told-at _ here is explained.looked).0

  left-queried : (made : Made) (flags : Flags) (first last : Point) (went : Went) (read new : History)
      → Left meaning store old read → first.history ≡ Some read → last.history ≡ Some new
      → Queries made flags first last went → Left meaning store old new
  left-queried made flags first last went read new left at is (inl unplanned) =
      left-unplanned made flags.requested flags.query first last went read new left at is unplanned
  left-queried made flags first last went read new left at is (inr queried) = planned queried.planned_at refl
    where
      planned : (planned_at : Option History) → queried.planned_at ≡ planned_at → Left meaning store old new
      planned None here = absurd (told-before _ here is queried.answered.1)
      planned (Some then_is) here =
          left-saw _ then_is new
          (left-looks read then_is left (told-at _ at here (ByLooks-told queried.planned)).0)
          (told-at _ here is queried.answered.1)

  -- a run that comes to no build and shows none changes no file
  abbrev pub LeavesUnbuilt : History → Option Built → Type 0
  LeavesUnbuilt new None = Left meaning store old new
  LeavesUnbuilt new (Some (dry planned_at)) = ⊥
  LeavesUnbuilt new (Some (build planned_at work tasks items)) = Unit {0}

  pub goes-left : (meant : Meant) (first last : Point) (went : Went) (read new : History)
      → Left meaning store old read → first.history ≡ Some read → last.history ≡ Some new
      → ((made : Made) (flags : Flags) → meant ≡ shows made flags → ⊥)
      → (goes : Goes meaning meant first last went) → LeavesUnbuilt new (built_in meaning meant first last went goes)
  goes-left (only outcome) first last went read new left at is none goes =
      left-same read new left (told-at Same at is goes.same)
  goes-left (prints variables lists all) first last went read new left at is none goes =
      left-dates goes.looked read new left (told-at (DatesAll goes.looked) at is goes.told)
  goes-left (audits env made order) first last went read new left at is none goes =
      left-audited env made order first last went read new left at is goes
  goes-left (explains made flags) first last went read new left at is none goes =
      left-explained made flags first last went read new left at is goes
  goes-left (queries made flags) first last went read new left at is none goes =
      left-queried made flags first last went read new left at is goes
  goes-left (shows made flags) first last went read new left at is none goes = absurd (none made flags refl)
  goes-left (builds made flags) first last went read new left at is none (inl unplanned) =
      left-unplanned made flags.requested flags.query first last went read new left at is unplanned
  goes-left (builds made flags) first last went read new left at is none (inr built) = tt

-- Words that ask for no dry run mean none.

chosen-shows : (env : Env) (given made : Made) (order : Order) (its flags : Flags) (first second third fourth : Bool)
    → (if first then audits env given order
    else (if second then explains given its
    else (if third then queries given its else (if fourth then shows given its else builds given its))))
    ≡ shows made flags
    → fourth ≡ true
chosen-shows env given made order its flags true second third fourth is = absurd cc
chosen-shows env given made order its flags false true third fourth is = absurd cc
chosen-shows env given made order its flags false false true fourth is = absurd cc
chosen-shows env given made order its flags false false false true is = refl
chosen-shows env given made order its flags false false false false is = absurd cc

mode-shows : (env : Env) (given made : Made) (order : Order) (flags : Flags) (all : List Print)
    → by_mode env given order all ≡ shows made flags → order.flags.dry ≡ true
mode-shows env given made order flags [] is =
    chosen-shows env given made order order.flags flags order.audit order.explain order.flags.query order.flags.dry is
mode-shows env given made order flags (print ∷ more) is = absurd cc

pub shows-none : (env : Env) (order : Order) (read : Result Made ReadFault) (made : Made) (flags : Flags)
    → order.flags.dry ≡ false → by_reading env order read ≡ shows made flags → ⊥
shows-none env order (Ok given) made flags none is =
    false≢true (sym none ∙ mode-shows env given made order flags order.prints is)
shows-none env order (Err fault) made flags none is = absurd cc
