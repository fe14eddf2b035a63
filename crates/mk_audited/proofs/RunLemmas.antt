-- A run with `--audit` that ends well has looked at the files that stand, and found nothing.
use Rattle.std.proofs.Common.{◌≡◌, ◌∙◌, ◌⊎◌, ℕ, zero, suc, Bool, true, false, not, List, [], ◌∷◌, ◌++◌, length, map}
use Rattle.std.proofs.Common.{◌==◌, Option, Some, None, Result, Ok, Err, inl, inr, refl, sym, ap, subst, if◌then◌else◌, arith}
use Rattle.std.proofs.lemmas.Bool.{eqb-true}
use Rattle.std.proofs.lemmas.List.{append_cancel_left}
use Rattle.std.specs.List.{AllByRecursion}
use Rattle.mk_answers.proofs.FileLemmas.{worlds_are_read_as_files}
use Rattle.mk_audit.specs.Modes.{mode_is_full}
use Rattle.mk_audit.specs.Turns as audit
use Rattle.mk_audit.specs.declared.fault.AuditFault.{AuditFault}
use Rattle.mk_audit.specs.declared.fault.AuditFault.TheVariants as audit_fault
use Rattle.mk_breaches.specs.Breaches.{breaches}
use Rattle.mk_clean.specs.Clean.{Plan, clean_build}
use Rattle.mk_clean.specs.Declared.{IsDeclared}
use Rattle.mk_cli.specs.declared.order.Order.{Order}
use Rattle.mk_decision.specs.Decisions.{Work}
use Rattle.mk_decision.specs.Makers.{work_on}
use Rattle.mk_explain.specs.Turns.{SawFiles}
use Rattle.mk_graph.specs.declared.Made.{Made}
use Rattle.mk_graph.specs.declared.mode.Mode.{Mode}
use Rattle.mk_edited.proofs.EditedLemmas.{edited_builds_are_declared}
use Rattle.mk_headline.proofs.PlanLemmas.{are-well-made, job-has}
use Rattle.mk_headline.specs.Plans.{clean_plan, jobs_from}
use Rattle.mk_headline.specs.Premises.{GoesByMetaMode, IsWellMade}
use Rattle.mk_makefile.specs.Reading.{reading}
use Rattle.mk_makefile.specs.declared.fault.ReadFault.{ReadFault}
use Rattle.mk_makefile.specs.declared.fault.ReadFault.TheVariants as read_fault
use Rattle.mk_modes.specs.Auditing.{Audits, Finds, IsAuditedRun, Tells, breaches_in, plan_facts}
use Rattle.mk_modes.specs.Building.{IsUnplanned, Point, point, unbuilt}
use Rattle.mk_modes.specs.Ends.{IsOutside, of_audit, of_count, of_plan, of_read}
use Rattle.mk_modes.specs.Meaning.{audits, builds, by_mode, by_reading, ended, explains, only, queries, shows}
use Rattle.mk_modes.specs.Modes.{Followed, Goes, Held, Only, Printed, Stands}
use Rattle.mk_modes.specs.declared.auditing.Audit.{Audit}
use Rattle.mk_modes.specs.declared.building.Went.{Went}
use Rattle.mk_modes.specs.declared.report.End.{End}
use Rattle.mk_modes.specs.declared.report.End.TheVariants as end
use Rattle.mk_plan.proofs.LookLemmas.{ByLooks-told}
use Rattle.mk_plan.specs.Plans.{planned}
use Rattle.mk_plan.specs.declared.fault.PlanFault.{PlanFault}
use Rattle.mk_plan.specs.declared.fault.PlanFault.TheVariants as plan_fault
use Rattle.mk_plan.specs.declared.plan.PlanNode.{PlanNode}
use Rattle.mk_reader.specs.Results.{ReadBy}
use Rattle.mk_run.proofs.CleanRunLemmas.{asked-state, done-before, questions-leave, same-jobs, well-made}
use Rattle.mk_run.proofs.TrueRunLemmas.{goes-told, questions-ask, told-at, told-before}
use Rattle.mk_makefile.specs.Questions.{AreAsked}
use Rattle.mk_scopes.specs.declared.scopes.Env.{Env}
use Rattle.mk_sound.proofs.FilesLemmas.{runs_leave_files, runs_may_follow}
use Rattle.mk_sound.proofs.LeftLemmas.{after-looks, questions-left}
use Rattle.mk_sound.specs.Files.{AreSound, IsTrueStart}
use Rattle.mk_run.specs.CleanRuns.{bare, clean_jobs_of}
use Rattle.mk_trace.specs.Runs.{Tasks}
use Rattle.mk_trace.specs.TrueBuilds.{LeavesFiles}
use Rattle.mk_uptodate.specs.Audited.{HoldsOfFiles}
use Rattle.mk_world.proofs.CallLemmas.{after_all-append}
use Rattle.mk_world.specs.Deeds.{Store}
use Rattle.mk_world.specs.History.{State as Stand, after_all, contents, files_of, first_state, state_of}
use Rattle.mk_world.specs.Looks.{OnlyLooks}
use Rattle.mk_world.specs.Talks.{Meaning}
use Rattle.mk_world.specs.declared.history.Happening.TheVariants.{Look}
use Rattle.mk_world.specs.declared.history.History.{History}
use Rattle.mk_audited.proofs.AuditLemmas.{clean_audits_are_sound, mode_of}
use Rattle.mk_audited.proofs.EditLemmas.{edited-children, edits_keep_true_starts}
use Rattle.mk_audited.specs.Audits.{AreAuditable, IsCleanAudit, lines_on}
use Rattle.mk_audited.specs.Runs.{AreLeftToAsk, AsksForAudit, AuditedBuildsLeaveClean, IsCleanAuditRun, RunsFindNothing, RunsFindSoundFiles}

-- ends that are not well

read-not-done : (fault : ReadFault) → of_read fault ≡ end.Done → ⊥
read-not-done (read_fault.NoFile file) is = absurd cc
read-not-done (read_fault.Bad file line what) is = absurd cc
read-not-done (read_fault.Limit kind most) is = absurd cc
read-not-done read_fault.World is = absurd cc
read-not-done read_fault.Sink is = absurd cc
read-not-done read_fault.NoMemory is = absurd cc

plan-not-done : (fault : PlanFault) → of_plan fault ≡ end.Done → ⊥
plan-not-done plan_fault.NoTarget is = absurd cc
plan-not-done (plan_fault.NoRule name) is = absurd cc
plan-not-done (plan_fault.Cycle names) is = absurd cc
plan-not-done (plan_fault.Limit kind most) is = absurd cc
plan-not-done plan_fault.Failed is = absurd cc
plan-not-done plan_fault.NoMemory is = absurd cc

audit-not-done : (fault : AuditFault) → of_audit fault ≡ end.Done → ⊥
audit-not-done audit_fault.Failed is = absurd cc
audit-not-done audit_fault.NoMemory is = absurd cc

outside-not-done : (it : End) → IsOutside it → it ≡ end.Done → ⊥
outside-not-done it (inl failed) is = let both : end.WorldFault ≡ end.Done = sym failed ∙ is in absurd cc
outside-not-done it (inr memory) is = let both : end.NoMemory ≡ end.Done = sym memory ∙ is in absurd cc

-- a run of a fault of the makefiles does not end well
only-not-done : (fault : ReadFault) (first last : Point) (went : Went) → Only (ended (of_read fault)) first last went
    → went.end ≡ end.Done → ⊥
only-not-done fault first last went goes done = by goes.printed
  where
    by : Printed (ended (of_read fault)) (record { before = first.out; after = last.out }) went.end → ⊥
    by (inl whole) = stood whole.stands
      where
        stood : Stands whole.stood (ended (of_read fault)) → ⊥
        stood (inl same) = read-not-done fault (sym (whole.is ∙ ap (λ it. it.end) same) ∙ done)
        stood (inr stopped) = outside-not-done whole.stood.end stopped.outside (sym whole.is ∙ done)
    by (inr cut) = let both : end.SinkFault ≡ end.Done = sym cut.is ∙ done in absurd cc

no-count : (count : ℕ) → of_count count ≡ end.Done → count ≡ 0
no-count count is = by (count == 0) refl is
  where
    by : (none : Bool) → (count == 0) ≡ none → (if none then end.Done else end.Breaches count) ≡ end.Done → count ≡ 0
    by true none is = eqb-true count 0 none
    by false none is = absurd cc

none-counted : {A : Type 0} (items : List A) → length items ≡ 0 → items ≡ []
none-counted [] is = refl
none-counted (item ∷ items) is = absurd (let never : ⊥ = omega (arith, is) in never)

-- An audit whose run ends well: what it found, of which nothing is a breach.
record FindsNothing (meaning : Meaning) (work : Work) (mode : Mode) (before after : Option History) : Type 0 where
  audit_is : Audit
  are : audit.AreAudited (SawFiles meaning before after) work audit_is.nodes
  facts : audit_is.plan ≡ plan_facts mode false false
  nothing : breaches_in audit_is ≡ []

finds-nothing : (meaning : Meaning) (work : Work) (mode : Mode) (before after : Option History)
    (outcome : Result Audit AuditFault) (held held_after : Option (List ℕ)) (it : End)
    → Finds meaning work mode before after outcome → Tells outcome held held_after it → it ≡ end.Done
    → FindsNothing meaning work mode before after
finds-nothing meaning work mode before after (Ok found) held held_after it finds (inl told) done = record {
  audit_is = found;
  are = finds.0;
  facts = finds.1;
  nothing = none-counted (breaches_in found) (no-count (length (breaches_in found)) (sym told.0 ∙ done));
}
finds-nothing meaning work mode before after (Ok found) held held_after it finds (inr (inl cut)) done =
    let both : end.SinkFault ≡ end.Done = sym cut.0 ∙ done in absurd cc
finds-nothing meaning work mode before after (Ok found) held held_after it finds (inr (inr memory)) done =
    let both : end.NoMemory ≡ end.Done = sym memory.0 ∙ done in absurd cc
finds-nothing meaning work mode before after (Err fault) held held_after it finds tells done =
    absurd (audit-not-done fault (sym tells.0 ∙ done))

-- what is meant by words that ask for an audit
audit-is-meant : (env : Env) (made : Made) (order : Order) → AsksForAudit order
    → by_mode env made order order.prints ≡ audits env made order
audit-is-meant env made order asks =
    ap (by_mode env made order) asks.prints
    ∙ ap (λ audit. if audit then audits env made order
    else (if order.explain then explains made order.flags
    else (if order.flags.query then queries made order.flags
    else (if order.flags.dry then shows made order.flags else builds made order.flags)))) asks.audit

-- the makefiles of such a run that ends well were read, and it has audited
record HasAudited (meaning : Meaning) (env : Env) (order : Order) (read : Result Made ReadFault) (first last : Point)
    (went : Went) : Type 0
  where
    made : Made
    read_is : read ≡ Ok made
    run : IsAuditedRun meaning env made order first last went

has-audited : (meaning : Meaning) (env : Env) (order : Order) (read : Result Made ReadFault) (first last : Point)
    (went : Went) → AsksForAudit order → went.end ≡ end.Done → Goes meaning (by_reading env order read) first last went
    → HasAudited meaning env order read first last went
has-audited meaning env order (Err fault) first last went asks done goes =
    absurd (only-not-done fault first last went goes done)
has-audited meaning env order (Ok made) first last went asks done goes =
    by (subst (λ meant. Goes meaning meant first last went) (audit-is-meant env made order asks) goes)
  where
    by : Audits meaning env made order first last went → HasAudited meaning env order (Ok made) first last went
    by (inl unplanned) =
        absurd (plan-not-done unplanned.fault (sym (ap (λ (w : Went). w.end) unplanned.is) ∙ done))
    by (inr run) = record { made = made; read_is = refl; run = run }

-- files behind looks
looked-files : (old new : History) → OnlyLooks old new → (state_of new).files ≡ (state_of old).files
looked-files old new looked =
    ap (λ (b : _). (after_all (first_state b) new.events).files) looked.base
    ∙ (ap (λ events. (after_all (first_state old.base) events).files) looked.events
    ∙ (ap (λ (s : Stand). s.files)
    (after_all-append (first_state old.base) old.events (map (λ path. Look path) looked.looks))
    ∙ after-looks (state_of old) looked.looks))

same-ok : {A E : Type 0} (one other : A) → ◌≡◌ {A = Result A E} (Ok one) (Ok other) → one ≡ other
same-ok one other is = cc

module _ (meaning : Meaning) (env : Env) (order : Order) (old : History)
    (makefiles : AreAuditable meaning env order (files_of old))
  where
    abbrev HasFound : Type 0
    HasFound = (its : IsCleanAudit meaning env order old) × (its.makefiles ≡ makefiles)

    -- the reading of a run is that of these files, and changed none
    read-is : (read_then : History) (held held_after : Option (List ℕ)) (made : Made)
        → ReadBy meaning (Some old) (Some read_then) held held_after (Ok made) (λ answers. reading answers env order)
        → (made ≡ makefiles.made) × ((state_of read_then).files ≡ (state_of old).files)
    read-is read_then held held_after made reads =
        let known = worlds_are_read_as_files meaning old read_then held held_after (Ok made) env order
        makefiles.listings makefiles.asks reads in
        let left = questions-left meaning (files_of old) makefiles.listings reads.questions old read_then refl
        reads.asked known.1 in
        let asked = questions-ask meaning reads.questions old read_then reads.asked in
        let same : left.events ≡ asked.run.events =
        append_cancel_left old.events left.events asked.run.events (sym left.longer_is ∙ asked.run.longer) in (
          same-ok {E = ReadFault} made makefiles.made (sym known.0.0 ∙ makefiles.read),
          ap (λ (s : Stand). s.files) (asked-state meaning old read_then asked)
              ∙ questions-leave (state_of old) asked.run.events asked.questions
              (subst (AllByRecursion LeavesFiles) same left.leave),
        )

    work-is : (made : Made) (nodes : List PlanNode) → made ≡ makefiles.made
        → planned (files_of old) made order.flags.requested order.flags.query ≡ Ok nodes
        → work_on nodes made order.flags ≡ makefiles.work
    work-is made nodes is planned_is =
        let same : nodes ≡ makefiles.work.plan = same-ok {E = PlanFault} nodes makefiles.work.plan
        (sym planned_is
        ∙ (ap (λ it. planned (files_of old) it order.flags.requested order.flags.query) is ∙ makefiles.planned)) in
        ap (λ it. work_on nodes it order.flags) is
        ∙ (ap (λ it. work_on it makefiles.made order.flags) same ∙ sym makefiles.work_is)

    goes-clean : AsksForAudit order → (read_then new : History) (held held_after : Option (List ℕ))
        (read : Result Made ReadFault)
        → ReadBy meaning (Some old) (Some read_then) held held_after read (λ answers. reading answers env order)
        → (first last : Point) (went : Went) → first.history ≡ Some read_then → last.history ≡ Some new
        → went.end ≡ end.Done → Goes meaning (by_reading env order read) first last went → HasFound
    goes-clean asks read_then new held held_after read reads first last went at is done goes =
        found run.audited_at refl run.planned_at refl
      where
        has : HasAudited meaning env order read first last went
        has = has-audited meaning env order read first last went asks done goes

        run : IsAuditedRun meaning env has.made order first last went
        run = has.run

        known : (has.made ≡ makefiles.made) × ((state_of read_then).files ≡ (state_of old).files)
        known = read-is read_then held held_after has.made
            (subst (λ r. ReadBy meaning (Some old) (Some read_then) held held_after r
            (λ answers. reading answers env order)) has.read_is reads)

        found : (audited_at : Option History) → run.audited_at ≡ audited_at → (planned_at : Option History)
            → run.planned_at ≡ planned_at → HasFound
        found None there planned_at here = absurd (told-before _ there is run.left)
        found (Some then_is) there None here = absurd (told-before _ here there run.looked)
        found (Some audited_then) there (Some planned_then) here =
            let looked = told-at _ at here (ByLooks-told run.planned) in
            let files : (state_of planned_then).files ≡ (state_of old).files =
            looked-files read_then planned_then looked.0 ∙ known.1 in
            let work_is : work_on run.nodes has.made order.flags ≡ makefiles.work =
            work-is has.made run.nodes known.0
            (subst (λ query. planned (files_of old) has.made order.flags.requested query ≡ Ok run.nodes)
            (sym asks.query)
            (subst (λ f. planned f has.made order.flags.requested false ≡ Ok run.nodes)
            (ap contents known.1) looked.1)) in
            let finds = finds-nothing meaning (work_on run.nodes has.made order.flags) has.made.mode run.planned_at
            run.audited_at run.outcome first.out last.out went.end run.audits run.tells done in (
              record {
                makefiles = makefiles;
                nodes = finds.audit_is.nodes;
                before = planned_then;
                unchanged = λ path. ap (λ f. f path) files;
                after = audited_then;
                audited = subst (λ work. audit.AreAudited (SawFiles meaning (Some planned_then) (Some audited_then)) work
                    finds.audit_is.nodes) work_is
                    (subst (λ before. audit.AreAudited (SawFiles meaning before (Some audited_then))
                    (work_on run.nodes has.made order.flags) finds.audit_is.nodes) here
                    (subst (λ after. audit.AreAudited (SawFiles meaning run.planned_at after)
                    (work_on run.nodes has.made order.flags) finds.audit_is.nodes) there finds.are));
                facts = finds.audit_is.plan;
                mode = ap (λ f. f.mode) finds.facts ∙ ap (λ (w : Work). not (mode_is_full w.mode)) work_is;
                nothing = finds.nothing;
              },
              refl,
            )

    follows-clean : AsksForAudit order → (first last : Point) (err : Held) (went : Went) (new : History)
        → first.history ≡ Some old → last.history ≡ Some new → went.end ≡ end.Done
        → Followed meaning env order first last err went → HasFound
    follows-clean asks first last err went new at is done follows = read_from follows.read_at refl
      where
        read_from : (read_at : Option History) → follows.read_at ≡ read_at → HasFound
        read_from None here =
            absurd (goes-told meaning (by_reading env order follows.read) (point follows.read_at first.out) last went new
            here is follows.goes)
        read_from (Some read_then) here =
            goes-clean asks read_then new err.before err.after follows.read
            (subst (λ read_at. ReadBy meaning (Some old) read_at err.before err.after follows.read
            (λ answers. reading answers env order)) here
            (subst (λ before. ReadBy meaning before follows.read_at err.before err.after follows.read
            (λ answers. reading answers env order)) at follows.reads))
            (point follows.read_at first.out) last went here is done follows.goes

pub runs_find_nothing : RunsFindNothing
runs_find_nothing meaning words env order old new is makefiles =
    follows-clean meaning env order old makefiles is.asks is.first is.last
    (record { before = is.err.before; after = is.run.run.err_at }) is.run.run.went new is.began is.ended
    (done-before words is.run.run.went.end is.report.end _ is.run.run.closed is.done) is.run.run.followed

pub runs_find_sound_files : RunsFindSoundFiles
runs_find_sound_files meaning words env order old new is start exact makefiles =
    let found = runs_find_nothing meaning words env order old new is makefiles in
    subst (λ it. HoldsOfFiles meaning env order old it.work (lines_on it.work (files_of old))) found.1
    (clean_audits_are_sound meaning env order old start exact found.0)

-- what the jobs of the clean build read and change is declared, where files are sound
sound-declared : (meaning : Meaning) (env : Env) (order : Order) (files : Store)
    (sound : AreSound meaning env order files)
    → IsDeclared (clean_plan sound.work sound.lines)
    (clean_build meaning (clean_plan sound.work sound.lines) files)
sound-declared meaning env order files sound =
    subst (IsDeclared (clean_plan sound.work sound.lines))
    (same-jobs meaning sound.work sound.work sound.lines (jobs_from 0 sound.work.plan) (bare sound.work.plan files)
    (λ n among. (job-has sound.work n among).1)
    (λ one among. let its = sound.tasks_are one among in (its.asked, its.task))).0
    sound.declared

-- and so it is in the clean build of the edited files, where that is so which is left to be asked
edited-declared : (meaning : Meaning) (env build_env : Env) (order build_order : Order) (old : History) (new : Store)
    (makefiles : AreAuditable meaning env order (files_of old))
    → HoldsOfFiles meaning env order old makefiles.work (lines_on makefiles.work (files_of old))
    → AreLeftToAsk meaning build_env build_order (files_of old) new makefiles.work
    (lines_on makefiles.work (files_of old))
    → IsDeclared (clean_plan makefiles.work (lines_on makefiles.work (files_of old)))
    (clean_jobs_of meaning makefiles.work (bare makefiles.work.plan new))
edited-declared meaning env build_env order build_order old new makefiles holds left =
    subst (IsDeclared plan)
    (sym (same-jobs meaning work work lines (jobs_from 0 work.plan) (bare work.plan new)
    (λ n among. (job-has work n among).1)
    (λ one among. let its = left.tasks_are one among in (its.asked, its.task))).0)
    (edited_builds_are_declared meaning plan (files_of old) new left.edited left.reached left.edits_are declared
    (are-well-made meaning work lines (files_of old) well) left.reach left.declared).declared
  where
    work : Work
    work = makefiles.work

    lines : Tasks
    lines = lines_on makefiles.work (files_of old)

    plan : Plan
    plan = clean_plan makefiles.work (lines_on makefiles.work (files_of old))

    declared : IsDeclared plan (clean_build meaning plan (files_of old))
    declared =
        subst (λ l. IsDeclared (clean_plan work l) (clean_build meaning (clean_plan work l) (files_of old)))
        holds.lines_are
        (subst (λ w. IsDeclared (clean_plan w holds.sound.lines)
        (clean_build meaning (clean_plan w holds.sound.lines) (files_of old))) holds.work_is
        (sound-declared meaning env order (files_of old) holds.sound))

    well : IsWellMade work
    well = subst IsWellMade (sym makefiles.work_is)
        (well-made (files_of old) makefiles.made order.flags work.plan makefiles.planned makefiles.names_differ)

pub audited_builds_leave_clean : AuditedBuildsLeaveClean
audited_builds_leave_clean meaning words build_words env build_env order build_order old audited edited new start exact
    makefiles audit edits lawful idle left build node makes =
    let found = runs_find_nothing meaning words env order old audited audit makefiles in
    let holds = runs_find_sound_files meaning words env order old audited audit start exact makefiles in
    let behind = runs_may_follow meaning words env order audit.first audit.last audit.err audit.report audit.run old
    audited audit.began audit.ended audit.asks.dry start holds.sound
    (sym (edited-children audited edited edits) ∙ idle) in
    let sound : AreSound meaning build_env build_order (files_of edited) = record {
      made = left.made;
      listings = left.listings;
      read = left.read;
      work = makefiles.work;
      planned = left.planned;
      work_is = left.work_is;
      lines = lines_on makefiles.work (files_of old);
      room = left.room;
      asks = left.asks;
      mode = subst (λ it. GoesByMetaMode it.work (lines_on it.work (files_of old))) found.1
          (mode_of meaning env order old found.0);
      alike = left.alike;
      tasks_are = left.tasks_are;
      declared = edited-declared meaning env build_env order build_order old (files_of edited) makefiles holds left;
    } in
    runs_leave_files meaning build_words build_env build_order build.first build.last build.err build.report build.run
    edited new build.began build.ended build.built build.done
    (edits_keep_true_starts meaning audited edited behind.0 edits lawful) sound node makes
