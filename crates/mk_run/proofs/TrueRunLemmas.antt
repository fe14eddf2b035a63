-- Runs whose meta files tell what happened.
use Rattle.std.proofs.Common.{◌≡◌, ◌∙◌, ℕ, List, [], ◌∷◌, ◌++◌, map, Option, Some, None}
use Rattle.std.proofs.Common.{inl, inr, refl, sym, ap, subst, append_assoc}
use Rattle.std.proofs.lemmas.List.{append-nil}
use Rattle.std.specs.List.{AllByRecursion}
use Rattle.mk_cli.specs.declared.order.Order.{Order}
use Rattle.mk_decision.specs.Makers.{work_on}
use Rattle.mk_dry.proofs.TruthLemmas.{dry-runs-stay-true, dry-true}
use Rattle.mk_flags.specs.declared.Flags.{Flags}
use Rattle.mk_graph.specs.declared.Made.{Made}
use Rattle.mk_makefile.specs.Questions.{AreAsked, IsAsked, Question, bytes_of, time_of, names_of, output_of, cut}
use Rattle.mk_query.specs.Looks.{Saw, look_of}
use Rattle.mk_scopes.specs.declared.scopes.Env.{Env}
use Rattle.mk_trace.proofs.AlongLemmas.{OnlyAsked, all-append, asked-none, asked-true, built-true}
use Rattle.mk_trace.specs.Items.{Happened, Item, happened_all}
use Rattle.mk_trace.specs.TrueBuilds.{IsQuestion}
use Rattle.mk_world.proofs.CallLemmas.{MayAll-append, after_all-append, run_then}
use Rattle.mk_world.specs.History.{State as Stand, MayAll, after_all, files_of, first_state, state_of}
use Rattle.mk_world.specs.Looks.{Dated, DatesAll, OnlyLooks, Seen}
use Rattle.mk_world.specs.Runs.{Run, Same}
use Rattle.mk_world.specs.Talks.{Meaning}
use Rattle.mk_world.specs.Told.{Told}
use Rattle.mk_world.specs.declared.history.Happening.{Happening}
use Rattle.mk_world.specs.declared.history.Happening.TheVariants.{Look, Ask}
use Rattle.mk_world.specs.declared.history.History.{History}
use Rattle.mk_plan.proofs.LookLemmas.{ByLooks-told}
use Rattle.mk_run.proofs.CleanRunLemmas.{clean-run, done-before, done-build}
use Rattle.mk_run.proofs.CompletenessLemmas.{completes}
use Rattle.mk_modes.specs.Auditing.{Audits}
use Rattle.mk_modes.specs.Building.{Point, point}
use Rattle.mk_modes.specs.Explaining.{Explanation}
use Rattle.mk_modes.specs.Meaning.{Meant, only, prints, audits, explains, queries, shows, builds, by_reading}
use Rattle.mk_modes.specs.Querying.{Queries}
use Rattle.mk_modes.specs.Modes.{Followed, Goes, Held}
use Rattle.mk_run.specs.Runs.{IsOrderRun}
use Rattle.mk_run.specs.TrueRuns.{Built, IsTrueOrderRun, LeavesClean, StaysTrue, build, build_of, built_in, dry}
use Rattle.mk_modes.specs.declared.building.Went.{Went}
use Rattle.mk_modes.specs.declared.report.End.{End}
use Rattle.mk_modes.specs.declared.report.End.TheVariants.{Done}
use Rattle.mk_modes.specs.declared.report.Report.{Report}

-- what only asks

state-longer : (old mid : History) (events : List Happening) → mid.base ≡ old.base
    → mid.events ≡ old.events ++ events → state_of mid ≡ after_all (state_of old) events
state-longer old mid events base is =
    ap (λ b. after_all (first_state b) mid.events) base
    ∙ (ap (after_all (first_state old.base)) is
    ∙ after_all-append (first_state old.base) old.events events)

pub asked-then : (meaning : Meaning) (old mid new : History) → OnlyAsked meaning old mid
    → OnlyAsked meaning mid new → OnlyAsked meaning old new
asked-then meaning old mid new first second = record {
  run = record {
    events = first.run.events ++ second.run.events;
    base = second.run.base ∙ first.run.base;
    longer = second.run.longer ∙ (ap (λ l. l ++ second.run.events) first.run.longer
        ∙ append_assoc old.events first.run.events second.run.events);
    lawful = MayAll-append meaning (state_of old) first.run.events second.run.events first.run.lawful
        (subst (λ s. MayAll meaning s second.run.events)
        (state-longer old mid first.run.events first.run.base first.run.longer) second.run.lawful);
  };
  questions = all-append IsQuestion first.run.events second.run.events first.questions second.questions;
}

asked-one : (meaning : Meaning) (old new : History) (event : Happening) → new.base ≡ old.base
    → new.events ≡ old.events ++ event ∷ [] → MayAll meaning (state_of old) (event ∷ [])
    → IsQuestion event → OnlyAsked meaning old new
asked-one meaning old new event base events may is = record {
  run = record { events = event ∷ []; base = base; longer = events; lawful = may };
  questions = (is, tt);
}

asked-same : (meaning : Meaning) (old new : History) → new.base ≡ old.base → new.events ≡ old.events
    → OnlyAsked meaning old new
asked-same meaning old new base events =
    asked-none meaning old new base (events ∙ sym (append-nil old.events))

asked-look : (meaning : Meaning) (old new : History) (path : List ℕ) → new.base ≡ old.base
    → new.events ≡ old.events ++ Look path ∷ [] → OnlyAsked meaning old new
asked-look meaning old new path base events =
    asked-one meaning old new (Look path) base events ((tt, tt), tt) tt

question-asks : (meaning : Meaning) (question : Question) (old new : History)
    → IsAsked meaning question old new → OnlyAsked meaning old new
question-asks meaning (bytes_of path found) old new is = asked-look meaning old new path is.base is.event
question-asks meaning (time_of path when) old new is = asked-look meaning old new path is.base is.event
question-asks meaning (names_of dir names) old new is = asked-look meaning old new dir is.base is.event
question-asks meaning (output_of cmd ended) old new is =
    asked-one meaning old new (Ask cmd is.ran.steps) is.ran.base is.ran.event (is.ran.lawful, tt) tt
question-asks meaning (cut cmd) old new (inl same) = asked-same meaning old new same.base same.events
question-asks meaning (cut cmd) old new (inr ran) =
    asked-one meaning old new (Ask cmd ran.steps) ran.base ran.event (ran.lawful, tt) tt

asked-here : (meaning : Meaning) (old new : History) → new ≡ old → OnlyAsked meaning old new
asked-here meaning old new is =
    asked-same meaning old new (ap (λ (h : History). h.base) is) (ap (λ (h : History). h.events) is)

pub questions-ask : (meaning : Meaning) (questions : List Question) (old new : History)
    → AreAsked meaning questions old new → OnlyAsked meaning old new
questions-ask meaning [] old new are = asked-here meaning old new are
questions-ask meaning (question ∷ more) old new are =
    asked-then meaning old are.0 new (question-asks meaning question old are.0 are.1)
    (questions-ask meaning more are.0 new are.2)

dates-ask : (meaning : Meaning) (looks : List Dated) (old new : History) → DatesAll looks old new
    → OnlyAsked meaning old new
dates-ask meaning [] old new are = asked-here meaning old new are
dates-ask meaning (one ∷ more) old new are =
    asked-then meaning old are.0 new (asked-look meaning old are.0 one.path are.1.base are.1.event)
    (dates-ask meaning more are.0 new are.2)

paths-may : (meaning : Meaning) (state : Stand) (paths : List (List ℕ))
    → MayAll meaning state (map (λ path. Look path) paths)
paths-may meaning state [] = tt
paths-may meaning state (path ∷ paths) = ((tt, tt), paths-may meaning _ paths)

paths-are : (paths : List (List ℕ)) → AllByRecursion IsQuestion (map (λ path. Look path) paths)
paths-are [] = tt
paths-are (path ∷ paths) = (tt, paths-are paths)

pub looks-ask : (meaning : Meaning) (old new : History) → OnlyLooks old new → OnlyAsked meaning old new
looks-ask meaning old new only_looks = record {
  run = record {
    events = map (λ path. Look path) only_looks.looks;
    base = only_looks.base;
    longer = only_looks.events;
    lawful = paths-may meaning (state_of old) only_looks.looks;
  };
  questions = paths-are only_looks.looks;
}

-- a run, part by part

-- before and behind a part of a run that only asks
asking-true : (meaning : Meaning) (built : Option Built) (old new : History) → OnlyAsked meaning old new
    → StaysTrue meaning built old new
asking-true meaning built old new asked lawful idle truth so_far later events leave apart =
    asked-true meaning old new asked truth so_far later events leave

-- what is told between moments that tell
pub told-at : {A : Type 0} (Related : A → A → Type 0) {before after : Option A} {old new : A}
    → before ≡ Some old → after ≡ Some new → Told before after Related → Related old new
told-at {A} Related {before} {after} {old} {new} is then_is told =
    subst (λ h. Told (Some old) h Related) then_is (subst (λ h. Told h after Related) is told)

pub told-before : {A : Type 0} (Related : A → A → Type 0) {before after : Option A} {new : A}
    → before ≡ None → after ≡ Some new → Told before after Related → ⊥
told-before {A} Related {before} {after} {new} is then_is told =
    subst (λ h. Told None h Related) then_is (subst (λ h. Told h after Related) is told)

seen-may : (meaning : Meaning) (state : Stand) (seen : List Seen) → MayAll meaning state (map look_of seen)
seen-may meaning state [] = tt
seen-may meaning state (one ∷ seen) = ((tt, tt), seen-may meaning _ seen)

seen-are : (seen : List Seen) → AllByRecursion IsQuestion (map look_of seen)
seen-are [] = tt
seen-are (one ∷ seen) = (tt, seen-are seen)

saw-asks : (meaning : Meaning) (seen : List Seen) (old new : History) → Saw seen old new
    → OnlyAsked meaning old new
saw-asks meaning seen old new saw = record {
  run = record {
    events = map look_of seen;
    base = saw.base;
    longer = saw.events;
    lawful = seen-may meaning (state_of old) seen;
  };
  questions = seen-are seen;
}

-- what tells behind an audit told before it
audited-told : (meaning : Meaning) (env : Env) (made : Made) (order : Order) (first last : Point) (went : Went)
    (new : History) → first.history ≡ None → last.history ≡ Some new
    → Audits meaning env made order first last went → ⊥
audited-told meaning env made order first last went new at is (inl unplanned) =
    told-before _ at is (ByLooks-told unplanned.refused)
audited-told meaning env made order first last went new at is (inr audited) =
    found audited.audited_at refl audited.planned_at refl
  where
    found : (audited_at : Option History) → audited.audited_at ≡ audited_at → (planned_at : Option History)
        → audited.planned_at ≡ planned_at → ⊥
    found None there planned_at here = told-before _ there is audited.asked
    found (Some then_is) there None here = told-before _ here there audited.looked
    found (Some then_is) there (Some planned_then) here = told-before _ at here (ByLooks-told audited.planned)

-- an audit only asks
audited-asks : (meaning : Meaning) (env : Env) (made : Made) (order : Order) (first last : Point) (went : Went)
    (read new : History) → first.history ≡ Some read → last.history ≡ Some new
    → Audits meaning env made order first last went → OnlyAsked meaning read new
audited-asks meaning env made order first last went read new at is (inl unplanned) =
    looks-ask meaning read new (told-at _ at is (ByLooks-told unplanned.refused)).0
audited-asks meaning env made order first last went read new at is (inr audited) =
    found audited.audited_at refl audited.planned_at refl
  where
    found : (audited_at : Option History) → audited.audited_at ≡ audited_at → (planned_at : Option History)
        → audited.planned_at ≡ planned_at → OnlyAsked meaning read new
    found None there planned_at here = absurd (told-before _ there is audited.asked)
    found (Some then_is) there None here = absurd (told-before _ here there audited.looked)
    found (Some then_is) there (Some planned_then) here =
        asked-then meaning read planned_then new
        (looks-ask meaning read planned_then (told-at _ at here (ByLooks-told audited.planned)).0)
        (asked-then meaning planned_then then_is new
        (looks-ask meaning planned_then then_is (told-at _ here there audited.looked).0)
        (told-at _ there is audited.asked))

-- what tells behind an explanation told before it
explained-told : (meaning : Meaning) (made : Made) (flags : Flags) (first last : Point) (went : Went)
    (new : History) → first.history ≡ None → last.history ≡ Some new
    → Explanation meaning made flags first last went → ⊥
explained-told meaning made flags first last went new at is (inl unplanned) = told-before _ at is (ByLooks-told unplanned.refused)
explained-told meaning made flags first last went new at is (inr explained) = planned explained.planned_at refl
  where
    planned : (planned_at : Option History) → explained.planned_at ≡ planned_at → ⊥
    planned None here = told-before _ here is explained.looked
    planned (Some then_is) here = told-before _ at here (ByLooks-told explained.planned)

-- an explanation only asks
explained-asks : (meaning : Meaning) (made : Made) (flags : Flags) (first last : Point) (went : Went)
    (read new : History) → first.history ≡ Some read → last.history ≡ Some new
    → Explanation meaning made flags first last went → OnlyAsked meaning read new
explained-asks meaning made flags first last went read new at is (inl unplanned) =
    looks-ask meaning read new (told-at _ at is (ByLooks-told unplanned.refused)).0
explained-asks meaning made flags first last went read new at is (inr explained) =
    planned explained.planned_at refl
  where
    planned : (planned_at : Option History) → explained.planned_at ≡ planned_at → OnlyAsked meaning read new
    planned None here = absurd (told-before _ here is explained.looked)
    planned (Some then_is) here =
        asked-then meaning read then_is new
        (looks-ask meaning read then_is (told-at _ at here (ByLooks-told explained.planned)).0)
        (looks-ask meaning then_is new (told-at _ here is explained.looked).0)

-- what tells behind a query told before it
queried-told : (made : Made) (flags : Flags) (first last : Point) (went : Went) (new : History)
    → first.history ≡ None → last.history ≡ Some new → Queries made flags first last went → ⊥
queried-told made flags first last went new at is (inl unplanned) = told-before _ at is (ByLooks-told unplanned.refused)
queried-told made flags first last went new at is (inr queried) = planned queried.planned_at refl
  where
    planned : (planned_at : Option History) → queried.planned_at ≡ planned_at → ⊥
    planned None here = told-before _ here is queried.answered.1
    planned (Some then_is) here = told-before _ at here (ByLooks-told queried.planned)

-- a query only asks
queried-asks : (meaning : Meaning) (made : Made) (flags : Flags) (first last : Point) (went : Went)
    (read new : History) → first.history ≡ Some read → last.history ≡ Some new
    → Queries made flags first last went → OnlyAsked meaning read new
queried-asks meaning made flags first last went read new at is (inl unplanned) =
    looks-ask meaning read new (told-at _ at is (ByLooks-told unplanned.refused)).0
queried-asks meaning made flags first last went read new at is (inr queried) =
    planned queried.planned_at refl
  where
    planned : (planned_at : Option History) → queried.planned_at ≡ planned_at → OnlyAsked meaning read new
    planned None here = absurd (told-before _ here is queried.answered.1)
    planned (Some then_is) here =
        asked-then meaning read then_is new
        (looks-ask meaning read then_is (told-at _ at here (ByLooks-told queried.planned)).0)
        (saw-asks meaning _ then_is new (told-at _ here is queried.answered.1))

-- what follows the reading, before which make has only asked
goes-true : (meaning : Meaning) (meant : Meant) (old read : History) (first last : Point)
    (went : Went) (new : History) → OnlyAsked meaning old read → first.history ≡ Some read
    → last.history ≡ Some new → (goes : Goes meaning meant first last went)
    → StaysTrue meaning (built_in meaning meant first last went goes) old new
goes-true meaning (only outcome) old read first last went new asked at is goes =
    let same = told-at Same at is goes.same in
    asking-true meaning None old new
    (asked-then meaning old read new asked (asked-same meaning read new same.base same.events))
goes-true meaning (prints variables lists all) old read first last went new asked at is goes =
    asking-true meaning None old new
    (asked-then meaning old read new asked (dates-ask meaning goes.looked read new (told-at (DatesAll goes.looked) at is goes.told)))
goes-true meaning (audits env made order) old read first last went new asked at is goes =
    asking-true meaning None old new
    (asked-then meaning old read new asked
    (audited-asks meaning env made order first last went read new at is goes))
goes-true meaning (explains made flags) old read first last went new asked at is goes =
    asking-true meaning None old new
    (asked-then meaning old read new asked (explained-asks meaning made flags first last went read new at is goes))
goes-true meaning (queries made flags) old read first last went new asked at is goes =
    asking-true meaning None old new
    (asked-then meaning old read new asked (queried-asks meaning made flags first last went read new at is goes))
goes-true meaning (shows made flags) old read first last went new asked at is (inl unplanned) =
    asking-true meaning None old new
    (asked-then meaning old read new asked (looks-ask meaning read new (told-at _ at is (ByLooks-told unplanned.refused)).0))
goes-true meaning (shows made flags) old read first last went new asked at is (inr shown) =
    planned shown.planned_at refl
  where
    planned : (point_at : Option History) → shown.planned_at ≡ point_at
        → StaysTrue meaning (Some (dry shown.planned_at)) old new
    planned None here = absurd (told-before _ here is shown.shown.told)
    planned (Some planned_then) here =
        let told = told-at _ here is shown.shown.told in
        λ lawful idle truth so_far later events leave apart.
        dry-true meaning shown.shown.items old planned_then new
        (asked-then meaning old read planned_then asked
        (looks-ask meaning read planned_then (told-at _ at here (ByLooks-told shown.planned)).0))
        told (dry-runs-stay-true meaning (work_on shown.nodes made flags) shown.shown.tasks shown.shown.items
        planned_then new shown.shown.makes told)
        lawful idle truth so_far later events leave
        (λ done now_is. apart planned_then done here now_is)
goes-true meaning (builds made flags) old read first last went new asked at is (inl unplanned) =
    asking-true meaning None old new
    (asked-then meaning old read new asked (looks-ask meaning read new (told-at _ at is (ByLooks-told unplanned.refused)).0))
goes-true meaning (builds made flags) old read first last went new asked at is (inr built) =
    planned built.planned_at refl
  where
    planned : (point_at : Option History) → built.planned_at ≡ point_at
        → StaysTrue meaning
        (Some (build built.planned_at (work_on built.nodes made flags) built.built.true_build.build.tasks
        built.built.true_build.build.items)) old new
    planned None here = absurd (told-before _ here is built.built.true_build.build.told)
    planned (Some planned_then) here =
        λ lawful idle truth so_far later events leave apart.
        built-true meaning (work_on built.nodes made flags) built.built.true_build.build.tasks built.built.true_build.build.items
        old planned_then new
        (asked-then meaning old read planned_then asked
        (looks-ask meaning read planned_then (told-at _ at here (ByLooks-told built.planned)).0))
        (told-at _ here is built.built.true_build.build.told) (told-at _ here is built.built.true_build.meta_files)
        lawful idle truth so_far later events leave
        (λ done rest are now_is. apart planned_then done rest here are now_is)

-- what follows the reading leaves what the clean build leaves
goes-clean : (meaning : Meaning) (env : Env) (order : Order) (meant : Meant) (end : End) (old read : History)
    (first last : Point) (went : Went) (new : History) → OnlyAsked meaning old read → first.history ≡ Some read
    → last.history ≡ Some new → (end ≡ Done → went.end ≡ Done) → (goes : Goes meaning meant first last went)
    → LeavesClean meaning env order (built_in meaning meant first last went goes) end old new
goes-clean meaning env order (only outcome) end old read first last went new asked at is well goes = tt
goes-clean meaning env order (prints variables lists all) end old read first last went new asked at is well goes = tt
goes-clean meaning env order (audits its made given) end old read first last went new asked at is well goes = tt
goes-clean meaning env order (explains made flags) end old read first last went new asked at is well goes = tt
goes-clean meaning env order (queries made flags) end old read first last went new asked at is well goes = tt
goes-clean meaning env order (shows made flags) end old read first last went new asked at is well (inl unplanned) = tt
goes-clean meaning env order (shows made flags) end old read first last went new asked at is well (inr shown) = tt
goes-clean meaning env order (builds made flags) end old read first last went new asked at is well (inl unplanned) = tt
goes-clean meaning env order (builds made flags) end old read first last went new asked at is well (inr built) =
    planned built.planned_at refl
  where
    planned : (point_at : Option History) → built.planned_at ≡ point_at
        → LeavesClean meaning env order
        (Some (build built.planned_at (work_on built.nodes made flags) built.built.true_build.build.tasks
        built.built.true_build.build.items)) end old new
    planned None here = absurd (told-before _ here is built.built.true_build.build.told)
    planned (Some planned_then) here =
        λ done clean ready.
        let looked = told-at _ at here (ByLooks-told built.planned) in
        clean-run meaning env order made flags built.nodes built.built.true_build.build.tasks
        built.built.true_build.build.items built.planned_at old planned_then new clean (files_of read) here
        (asked-then meaning old read planned_then asked (looks-ask meaning read planned_then looked.0))
        looked.1 built.names_differ
        (told-at _ here is (built.built.clean (done-build built.nodes built.result went.end (well done) built.end)))
        ready

-- what tells behind a part of a run told before it
pub goes-told : (meaning : Meaning) (meant : Meant) (first last : Point) (went : Went) (new : History)
    → first.history ≡ None → last.history ≡ Some new → Goes meaning meant first last went → ⊥
goes-told meaning (only outcome) first last went new at is goes = told-before Same at is goes.same
goes-told meaning (prints variables lists all) first last went new at is goes = told-before (DatesAll goes.looked) at is goes.told
goes-told meaning (audits env made order) first last went new at is goes =
    audited-told meaning env made order first last went new at is goes
goes-told meaning (explains made flags) first last went new at is goes =
    explained-told meaning made flags first last went new at is goes
goes-told meaning (queries made flags) first last went new at is goes =
    queried-told made flags first last went new at is goes
goes-told meaning (shows made flags) first last went new at is (inl unplanned) =
    told-before _ at is (ByLooks-told unplanned.refused)
goes-told meaning (shows made flags) first last went new at is (inr shown) = planned shown.planned_at refl
  where
    planned : (planned_at : Option History) → shown.planned_at ≡ planned_at → ⊥
    planned None here = told-before _ here is shown.shown.told
    planned (Some then_is) here = told-before _ at here (ByLooks-told shown.planned)
goes-told meaning (builds made flags) first last went new at is (inl unplanned) =
    told-before _ at is (ByLooks-told unplanned.refused)
goes-told meaning (builds made flags) first last went new at is (inr built) = planned built.planned_at refl
  where
    planned : (planned_at : Option History) → built.planned_at ≡ planned_at → ⊥
    planned None here = told-before _ here is built.built.true_build.build.told
    planned (Some then_is) here = told-before _ at here (ByLooks-told built.planned)

follows-told : (meaning : Meaning) (env : Env) (order : Order) (first last : Point) (err : Held)
    (went : Went) (new : History) → first.history ≡ None → last.history ≡ Some new
    → Followed meaning env order first last err went → ⊥
follows-told meaning env order first last err went new at is does = read does.read_at refl
  where
    read : (read_at : Option History) → does.read_at ≡ read_at → ⊥
    read None here =
        goes-told meaning (by_reading env order does.read) (point does.read_at first.out) last went new here is
        does.goes
    read (Some then_is) here = told-before (AreAsked meaning does.reads.questions) at here does.reads.asked

follows-true : (meaning : Meaning) (env : Env) (order : Order) (first last : Point) (err : Held)
    (went : Went) (old new : History) → first.history ≡ Some old → last.history ≡ Some new
    → (does : Followed meaning env order first last err went)
    → StaysTrue meaning
    (built_in meaning (by_reading env order does.read) (point does.read_at first.out) last went does.goes) old new
follows-true meaning env order first last err went old new at is does = read does.read_at refl
  where
    read : (read_at : Option History) → does.read_at ≡ read_at
        → StaysTrue meaning
        (built_in meaning (by_reading env order does.read) (point does.read_at first.out) last went does.goes) old new
    read None here =
        absurd (goes-told meaning (by_reading env order does.read) (point does.read_at first.out) last went new here
        is does.goes)
    read (Some read_then) here =
        goes-true meaning (by_reading env order does.read) old read_then (point does.read_at first.out) last went
        new (questions-ask meaning does.reads.questions old read_then (told-at (AreAsked meaning does.reads.questions) at here does.reads.asked)) here
        is does.goes

follows-clean : (meaning : Meaning) (env : Env) (order : Order) (first last : Point) (err : Held)
    (went : Went) (end : End) (old new : History) → first.history ≡ Some old → last.history ≡ Some new
    → (end ≡ Done → went.end ≡ Done) → (does : Followed meaning env order first last err went)
    → LeavesClean meaning env order
    (built_in meaning (by_reading env order does.read) (point does.read_at first.out) last went does.goes) end old new
follows-clean meaning env order first last err went end old new at is well does = read does.read_at refl
  where
    read : (read_at : Option History) → does.read_at ≡ read_at
        → LeavesClean meaning env order
        (built_in meaning (by_reading env order does.read) (point does.read_at first.out) last went does.goes) end old
        new
    read None here =
        absurd (goes-told meaning (by_reading env order does.read) (point does.read_at first.out) last went new here
        is does.goes)
    read (Some read_then) here =
        goes-clean meaning env order (by_reading env order does.read) end old read_then
        (point does.read_at first.out) last went new
        (questions-ask meaning does.reads.questions old read_then
        (told-at (AreAsked meaning does.reads.questions) at here does.reads.asked)) here is well does.goes

-- what happened in a run

happened-run : (meaning : Meaning) (items : List Item) (old new : History) → Happened meaning items old new
    → Run meaning old new
happened-run meaning items old new happens = record {
  events = happened_all items;
  base = happens.base;
  longer = happens.events;
  lawful = happens.lawful;
}

-- what follows the reading adds what may happen behind it
goes-run : (meaning : Meaning) (meant : Meant) (old read : History) (first last : Point)
    (went : Went) (new : History) → Run meaning old read → first.history ≡ Some read
    → last.history ≡ Some new → Goes meaning meant first last went → Run meaning old new
goes-run meaning (only outcome) old read first last went new before at is goes =
    let same = told-at Same at is goes.same in
    run_then before (asked-same meaning read new same.base same.events).run
goes-run meaning (prints variables lists all) old read first last went new before at is goes =
    run_then before (dates-ask meaning goes.looked read new (told-at (DatesAll goes.looked) at is goes.told)).run
goes-run meaning (audits env made order) old read first last went new before at is goes =
    run_then before (audited-asks meaning env made order first last went read new at is goes).run
goes-run meaning (explains made flags) old read first last went new before at is goes =
    run_then before (explained-asks meaning made flags first last went read new at is goes).run
goes-run meaning (queries made flags) old read first last went new before at is goes =
    run_then before (queried-asks meaning made flags first last went read new at is goes).run
goes-run meaning (shows made flags) old read first last went new before at is (inl unplanned) =
    run_then before (looks-ask meaning read new (told-at _ at is (ByLooks-told unplanned.refused)).0).run
goes-run meaning (shows made flags) old read first last went new before at is (inr shown) =
    planned shown.planned_at refl
  where
    planned : (point_at : Option History) → shown.planned_at ≡ point_at → Run meaning old new
    planned None here = absurd (told-before _ here is shown.shown.told)
    planned (Some planned_then) here =
        let told = told-at _ here is shown.shown.told in
        run_then before
        (run_then (looks-ask meaning read planned_then (told-at _ at here (ByLooks-told shown.planned)).0).run
        (happened-run meaning _ planned_then new told))
goes-run meaning (builds made flags) old read first last went new before at is (inl unplanned) =
    run_then before (looks-ask meaning read new (told-at _ at is (ByLooks-told unplanned.refused)).0).run
goes-run meaning (builds made flags) old read first last went new before at is (inr built) =
    planned built.planned_at refl
  where
    planned : (point_at : Option History) → built.planned_at ≡ point_at → Run meaning old new
    planned None here = absurd (told-before _ here is built.built.true_build.build.told)
    planned (Some planned_then) here =
        let told = told-at _ here is built.built.true_build.build.told in
        run_then before
        (run_then (looks-ask meaning read planned_then (told-at _ at here (ByLooks-told built.planned)).0).run
        (happened-run meaning _ planned_then new told))

follows-run : (meaning : Meaning) (env : Env) (order : Order) (first last : Point) (err : Held)
    (went : Went) (old new : History) → first.history ≡ Some old → last.history ≡ Some new
    → Followed meaning env order first last err went → Run meaning old new
follows-run meaning env order first last err went old new at is does = read does.read_at refl
  where
    read : (read_at : Option History) → does.read_at ≡ read_at → Run meaning old new
    read None here =
        absurd (goes-told meaning (by_reading env order does.read) (point does.read_at first.out) last went new here
        is does.goes)
    read (Some read_then) here =
        goes-run meaning (by_reading env order does.read) old read_then (point does.read_at first.out) last went new
        (questions-ask meaning does.reads.questions old read_then
        (told-at (AreAsked meaning does.reads.questions) at here does.reads.asked)).run here is does.goes

-- every run is one
pub true-run : {meaning : Meaning} {words : List (List ℕ)} {env : Env} {order : Order} {first last : Point}
    {err : Held} {report : Report} → IsOrderRun meaning words env order first last err report
    → IsTrueOrderRun meaning words env order first last err report
true-run {meaning} {words} {env} {order} {first} {last} {err} {report} run = record {
  run = run;
  happened = ran first.history last.history refl refl;
  meta_files = told first.history last.history refl refl;
  clean = cleaned first.history last.history refl refl;
  complete = completes run;
}
  where
    ran : (before after : Option History) → first.history ≡ before → last.history ≡ after
        → Told before after (Run meaning)
    ran before None at is = tt
    ran None (Some new) at is =
        absurd (follows-told meaning env order first last
        (record { before = err.before; after = run.err_at }) run.went new at is run.followed)
    ran (Some old) (Some new) at is =
        follows-run meaning env order first last
        (record { before = err.before; after = run.err_at }) run.went old new at is run.followed

    told : (before after : Option History) → first.history ≡ before → last.history ≡ after
        → Told before after (StaysTrue meaning (build_of run))
    told before None at is = tt
    told None (Some new) at is =
        absurd (follows-told meaning env order first last
        (record { before = err.before; after = run.err_at }) run.went new at is run.followed)
    told (Some old) (Some new) at is =
        follows-true meaning env order first last
        (record { before = err.before; after = run.err_at }) run.went old new at is run.followed

    cleaned : (before after : Option History) → first.history ≡ before → last.history ≡ after
        → Told before after (LeavesClean meaning env order (build_of run) report.end)
    cleaned before None at is = tt
    cleaned None (Some new) at is =
        absurd (follows-told meaning env order first last
        (record { before = err.before; after = run.err_at }) run.went new at is run.followed)
    cleaned (Some old) (Some new) at is =
        follows-clean meaning env order first last
        (record { before = err.before; after = run.err_at }) run.went report.end old new at is
        (done-before words run.went.end report.end _ run.closed) run.followed
