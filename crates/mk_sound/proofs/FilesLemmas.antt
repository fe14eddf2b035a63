-- Each run from files that are sound is sound.
use Rattle.std.proofs.Common.{◌≡◌, ◌∙◌, ℕ, ◌<◌, Bool, true, false, List, [], ◌∷◌, ◌++◌, map, Option, Some, None, Result, Ok, Err, if◌then◌else◌}
use Rattle.std.proofs.Common.{inl, inr, refl, sym, ap, subst, append_assoc, arith}
use Rattle.std.proofs.lemmas.List.{append-nil, append_cancel_left}
use Rattle.std.specs.List.{AllByRecursion}
use Rattle.mk_answers.proofs.FileLemmas.{worlds_are_read_as_files}
use Rattle.mk_clean.proofs.CleanLemmas.{job_of_node}
use Rattle.mk_clean.specs.Declared.{IsSource}
use Rattle.mk_cli.specs.declared.order.Order.{Order}
use Rattle.mk_cli.specs.declared.order.Print.{Print}
use Rattle.mk_decision.specs.Decisions.{Work}
use Rattle.mk_decision.specs.Makers.{work_on}
use Rattle.mk_flags.specs.declared.Flags.{Flags}
use Rattle.mk_graph.specs.declared.Made.{Made}
use Rattle.mk_headline.proofs.DecideLemmas.{makes-job}
use Rattle.mk_headline.proofs.PlanLemmas.{job-among}
use Rattle.mk_headline.specs.Plans.{clean_plan, jobs_from, makes_file}
use Rattle.mk_makefile.specs.Reading.{reading}
use Rattle.mk_makefile.specs.declared.fault.ReadFault.{ReadFault}
use Rattle.mk_meta.specs.TrueHistory.{IsTrueHistory}
use Rattle.mk_modes.specs.Building.{Point, point}
use Rattle.mk_modes.specs.Meaning.{Meant, only, prints, audits, explains, queries, shows, builds, by_mode, by_reading}
use Rattle.mk_modes.specs.Modes.{Followed, Goes, Held}
use Rattle.mk_modes.specs.declared.building.Went.{Went}
use Rattle.mk_modes.specs.declared.report.End.TheVariants.{Done}
use Rattle.mk_modes.specs.declared.report.Report.{Report}
use Rattle.mk_plan.proofs.LookLemmas.{ByLooks-told}
use Rattle.mk_plan.specs.Plans.{node_at, planned}
use Rattle.mk_plan.specs.declared.fault.PlanFault.{PlanFault}
use Rattle.mk_plan.specs.declared.plan.PlanNode.{PlanNode}
use Rattle.mk_reader.specs.Results.{ReadBy}
use Rattle.mk_run.proofs.TrueRunLemmas.{goes-told, told-at, told-before}
use Rattle.mk_run.specs.CleanRuns.{bare, clean_files_of, clean_jobs_of, lines_on}
use Rattle.mk_run.specs.TrueRuns.{Built, IsTrueOrderRun, KeptApart, StaysTrue, build, build_of, built_in, dry}
use Rattle.mk_scopes.specs.declared.scopes.Env.{Env}
use Rattle.mk_sound.proofs.LeftLemmas.{Left, LeavesUnbuilt, goes-left, looks-leave, questions-left, shows-none}
use Rattle.mk_sound.proofs.RunLemmas.{runs_leave_clean, runs_stay_true}
use Rattle.mk_sound.specs.Files.{AreSound, HasBuilt, IsTrueStart, RunsLeaveCleanFiles, RunsMayFollow, SoundFilesMakeSoundRuns}
use Rattle.mk_sound.specs.Sound.{IsSoundRun, LeavesWhatIsSound}
use Rattle.mk_trace.proofs.AlongLemmas.{all-append, same-history}
use Rattle.mk_trace.specs.Builds.{command_of}
use Rattle.mk_trace.specs.Items.{Item}
use Rattle.mk_trace.specs.Runs.{Tasks}
use Rattle.mk_trace.specs.TrueBuilds.{LeavesFiles, longer}
use Rattle.mk_world.proofs.LawLemmas.{runs_stay_lawful}
use Rattle.mk_world.specs.Deeds.{Store}
use Rattle.mk_world.specs.History.{files_of}
use Rattle.mk_world.specs.Lawful.{IsLawful}
use Rattle.mk_world.specs.Looks.{OnlyLooks}
use Rattle.mk_world.specs.Runs.{Run}
use Rattle.mk_world.specs.Talks.{Meaning}
use Rattle.mk_world.specs.declared.history.Happening.{Happening}
use Rattle.mk_world.specs.declared.history.Happening.TheVariants.{Look}
use Rattle.mk_world.specs.declared.history.History.{History}

same-ok : {A E : Type 0} (one other : A) → ◌≡◌ {A = Result A E} (Ok one) (Ok other) → one ≡ other
same-ok one other is = cc

-- what is meant by a build

record IsOf (order : Order) (read : Result Made ReadFault) (made : Made) (flags : Flags) : Type 0 where
  read_is : read ≡ Ok made
  flags_are : flags ≡ order.flags

chosen-is : (env : Env) (given made : Made) (order : Order) (its flags : Flags) (first second third fourth : Bool)
    → (if first then audits env given order
    else (if second then explains given its
    else (if third then queries given its else (if fourth then shows given its else builds given its))))
    ≡ builds made flags
    → (given ≡ made) × (flags ≡ its)
chosen-is env given made order its flags true second third fourth is = absurd cc
chosen-is env given made order its flags false true third fourth is = absurd cc
chosen-is env given made order its flags false false true fourth is = absurd cc
chosen-is env given made order its flags false false false true is = absurd cc
chosen-is env given made order its flags false false false false is =
    let first : given ≡ made = cc in
    let last : flags ≡ its = cc in
    (first, last)

mode-is : (env : Env) (given made : Made) (order : Order) (flags : Flags) (all : List Print)
    → by_mode env given order all ≡ builds made flags → (given ≡ made) × (flags ≡ order.flags)
mode-is env given made order flags [] is =
    chosen-is env given made order order.flags flags order.audit order.explain order.flags.query order.flags.dry is
mode-is env given made order flags (print ∷ more) is = absurd cc

build-is : (env : Env) (order : Order) (read : Result Made ReadFault) (made : Made) (flags : Flags)
    → by_reading env order read ≡ builds made flags → IsOf order read made flags
build-is env order (Ok given) made flags is =
    let parts = mode-is env given made order flags order.prints is in
    record { read_is = ap Ok parts.0; flags_are = parts.1 }
build-is env order (Err fault) made flags is = absurd cc

some-job : (one_job : Bool) (jobs : ℕ) → 0 < jobs → 0 < (if one_job then 1 else jobs)
some-job true jobs some = omega arith
some-job false jobs some = some

module _ (meaning : Meaning) (env : Env) (order : Order) (old : History) (start : IsTrueStart meaning old)
    (sound : AreSound meaning env order (files_of old))
  where
    -- what a run has built is of the work that these files come to, and sound
    abbrev IsSoundBuilt : Option Built → Type 0
    IsSoundBuilt None = Unit {0}
    IsSoundBuilt (Some (dry planned_at)) = Unit {0}
    IsSoundBuilt (Some (build planned_at work tasks items)) =
        (work ≡ sound.work) × IsSoundRun meaning env order planned_at work sound.lines old

    -- a run of this work, whose commands of `!=` change no file
    run-sound : (planned_at : Option History) (work : Work) → work ≡ sound.work
        → ((asked : List Happening) → planned_at ≡ Some (longer old asked) → AllByRecursion LeavesFiles asked)
        → IsSoundRun meaning env order planned_at work sound.lines old
    run-sound planned_at work is asks =
        subst (λ it. IsSoundRun meaning env order planned_at it sound.lines old) (sym is) (record {
          room = some-job sound.work.mode.one_job sound.work.flags.jobs
              (subst (λ (it : Work). 0 < it.flags.jobs) (sym sound.work_is) sound.room);
          lawful = start.lawful;
          idle = start.idle;
          truth = start.truth;
          asks = asks;
          planned = sound.alike;
          sound = record { mode = sound.mode; declared = sound.declared; tasks_are = sound.tasks_are };
        })

    -- The work of a run is that of the record, where its reading and its files are.
    work-same : (made : Made) (nodes : List PlanNode) → made ≡ sound.made
        → planned (files_of old) made order.flags.requested order.flags.query ≡ Ok nodes
        → work_on nodes made order.flags ≡ sound.work
    work-same made nodes is planned_is =
        let same : nodes ≡ sound.work.plan =
        same-ok {E = PlanFault} nodes sound.work.plan
        (sym planned_is
        ∙ (ap (λ it. planned (files_of old) it order.flags.requested order.flags.query) is ∙ sound.planned)) in
        ap (λ it. work_on nodes it order.flags) is
        ∙ (ap (λ it. work_on it sound.made order.flags) same ∙ sym sound.work_is)

    -- what follows a reading that has asked so
    goes-sound : (read_then : History) (read : Result Made ReadFault)
        → ((made : Made) → read ≡ Ok made → (made ≡ sound.made) × Left meaning (files_of old) old read_then)
        → (meant : Meant) → by_reading env order read ≡ meant → (first last : Point) (went : Went) (new : History)
        → first.history ≡ Some read_then → last.history ≡ Some new → (goes : Goes meaning meant first last went)
        → IsSoundBuilt (built_in meaning meant first last went goes)
    goes-sound read_then read reads (only outcome) meant_is first last went new at is goes = tt
    goes-sound read_then read reads (prints variables lists all) meant_is first last went new at is goes = tt
    goes-sound read_then read reads (audits its made given) meant_is first last went new at is goes = tt
    goes-sound read_then read reads (explains made flags) meant_is first last went new at is goes = tt
    goes-sound read_then read reads (queries made flags) meant_is first last went new at is goes = tt
    goes-sound read_then read reads (shows made flags) meant_is first last went new at is (inl unplanned) = tt
    goes-sound read_then read reads (shows made flags) meant_is first last went new at is (inr shown) = tt
    goes-sound read_then read reads (builds made flags) meant_is first last went new at is (inl unplanned) = tt
    goes-sound read_then read reads (builds made flags) meant_is first last went new at is (inr built) =
        planned_from built.planned_at refl
      where
        its : IsOf order read made flags
        its = build-is env order read made flags meant_is

        known : (made ≡ sound.made) × Left meaning (files_of old) old read_then
        known = reads made its.read_is

        planned_from : (point_at : Option History) → built.planned_at ≡ point_at
            → IsSoundBuilt (Some (build built.planned_at (work_on built.nodes made flags)
            built.built.true_build.build.tasks built.built.true_build.build.items))
        planned_from None here = absurd (told-before _ here is built.built.true_build.build.told)
        planned_from (Some planned_then) here =
            (work_is, run-sound built.planned_at (work_on built.nodes made flags) work_is asks)
          where
            looked : OnlyLooks read_then planned_then
                × (planned (files_of read_then) made flags.requested flags.query ≡ Ok built.nodes)
            looked = told-at _ at here (ByLooks-told built.planned)

            work_is : work_on built.nodes made flags ≡ sound.work
            work_is = ap (λ it. work_on built.nodes made it) its.flags_are
                ∙ work-same made built.nodes known.0
                (subst (λ (it : Flags). planned (files_of old) made it.requested it.query ≡ Ok built.nodes)
                its.flags_are
                (subst (λ files. planned files made flags.requested flags.query ≡ Ok built.nodes) known.1.files
                looked.1))

            asks : (asked : List Happening) → built.planned_at ≡ Some (longer old asked)
                → AllByRecursion LeavesFiles asked
            asks asked then_is =
                let same : planned_then ≡ longer old asked =
                let both : Some planned_then ≡ Some (longer old asked) = sym here ∙ then_is in cc in
                subst (AllByRecursion LeavesFiles)
                (append_cancel_left old.events (known.1.events ++ map (λ path. Look path) looked.0.looks) asked
                (sym (append_assoc old.events known.1.events (map (λ path. Look path) looked.0.looks))
                ∙ (ap (λ (l : List Happening). l ++ map (λ path. Look path) looked.0.looks) (sym known.1.longer_is)
                ∙ (sym looked.0.events ∙ ap (λ (h : History). h.events) same))))
                (all-append LeavesFiles known.1.events (map (λ path. Look path) looked.0.looks) known.1.leave
                (looks-leave looked.0.looks))

    -- a reading changes no file, whatever it gave
    reads-left : (read_then : History) (held held_after : Option (List ℕ)) (read : Result Made ReadFault)
        → ReadBy meaning (Some old) (Some read_then) held held_after read (λ answers. reading answers env order)
        → Left meaning (files_of old) old read_then
    reads-left read_then held held_after read reads =
        questions-left meaning (files_of old) sound.listings reads.questions old read_then refl reads.asked
        (worlds_are_read_as_files meaning old read_then held held_after read env order sound.listings sound.asks
        reads).1

    -- the reading of a run is that of these files
    reads-sound : (read_then : History) (held held_after : Option (List ℕ)) (made : Made)
        → ReadBy meaning (Some old) (Some read_then) held held_after (Ok made) (λ answers. reading answers env order)
        → (made ≡ sound.made) × Left meaning (files_of old) old read_then
    reads-sound read_then held held_after made reads =
        let known = worlds_are_read_as_files meaning old read_then held held_after (Ok made) env order sound.listings
        sound.asks reads in (
          same-ok {E = ReadFault} made sound.made (sym known.0.0 ∙ sound.read),
          reads-left read_then held held_after (Ok made) reads,
        )

    follows-sound : (first last : Point) (err : Held) (went : Went) (new : History) → first.history ≡ Some old
        → last.history ≡ Some new → (follows : Followed meaning env order first last err went)
        → IsSoundBuilt (built_in meaning (by_reading env order follows.read) (point follows.read_at first.out) last went
        follows.goes)
    follows-sound first last err went new at is follows = read_from follows.read_at refl
      where
        read_from : (read_at : Option History) → follows.read_at ≡ read_at
            → IsSoundBuilt (built_in meaning (by_reading env order follows.read) (point follows.read_at first.out) last
            went follows.goes)
        read_from None here =
            absurd (goes-told meaning (by_reading env order follows.read) (point follows.read_at first.out) last went new
            here is follows.goes)
        read_from (Some read_then) here =
            goes-sound read_then follows.read
            (λ made read_is. reads-sound read_then err.before err.after made
            (subst (λ read. ReadBy meaning (Some old) (Some read_then) err.before err.after read
            (λ answers. reading answers env order)) read_is
            (subst (λ read_at. ReadBy meaning (Some old) read_at err.before err.after follows.read
            (λ answers. reading answers env order)) here
            (subst (λ before. ReadBy meaning before follows.read_at err.before err.after follows.read
            (λ answers. reading answers env order)) at follows.reads))))
            (by_reading env order follows.read) refl (point follows.read_at first.out) last went new here is follows.goes

    -- a run that comes to no build changes no file
    follows-left : (first last : Point) (err : Held) (went : Went) (new : History) → first.history ≡ Some old
        → last.history ≡ Some new → order.flags.dry ≡ false
        → (follows : Followed meaning env order first last err went)
        → LeavesUnbuilt meaning (files_of old) old new
        (built_in meaning (by_reading env order follows.read) (point follows.read_at first.out) last went follows.goes)
    follows-left first last err went new at is none follows = read_from follows.read_at refl
      where
        read_from : (read_at : Option History) → follows.read_at ≡ read_at
            → LeavesUnbuilt meaning (files_of old) old new
            (built_in meaning (by_reading env order follows.read) (point follows.read_at first.out) last went
            follows.goes)
        read_from None here =
            absurd (goes-told meaning (by_reading env order follows.read) (point follows.read_at first.out) last went new
            here is follows.goes)
        read_from (Some read_then) here =
            goes-left meaning (files_of old) old (by_reading env order follows.read) (point follows.read_at first.out) last
            went read_then new
            (reads-left read_then err.before err.after follows.read
            (subst (λ read_at. ReadBy meaning (Some old) read_at err.before err.after follows.read
            (λ answers. reading answers env order)) here
            (subst (λ before. ReadBy meaning before follows.read_at err.before err.after follows.read
            (λ answers. reading answers env order)) at follows.reads)))
            here is (λ made flags. shows-none env order follows.read made flags none) follows.goes

pub sound_files_make_sound_runs : SoundFilesMakeSoundRuns
sound_files_make_sound_runs meaning words env order first last err report run old new planned_at work tasks items at is
    built start sound =
    subst (IsSoundBuilt meaning env order old start sound) built
    (follows-sound meaning env order old start sound first last
    (record { before = err.before; after = run.run.err_at }) run.run.went new at is run.run.followed)

-- the made files of a run that is sound
sound-files : (meaning : Meaning) (words : List (List ℕ)) (env : Env) (order : Order) (first last : Point) (err : Held)
    (report : Report) (run : IsTrueOrderRun meaning words env order first last err report) (old new : History)
    (planned_at : Option History) (work : Work) (lines tasks : Tasks) (items : List Item)
    → first.history ≡ Some old → last.history ≡ Some new
    → build_of run.run ≡ Some (build planned_at work tasks items) → report.end ≡ Done
    → IsSoundRun meaning env order planned_at work lines old
    → (node : ℕ) → makes_file (node_at work.plan node) ≡ true
    → files_of new (node_at work.plan node).name
    ≡ clean_files_of meaning work (bare work.plan (files_of old)) (node_at work.plan node).name
sound-files meaning words env order first last err report run old new planned_at work lines tasks items at is built
    done ready node makes =
    let left = subst (λ b. LeavesWhatIsSound meaning env order b report.end old new) built
    (told-at (LeavesWhatIsSound meaning env order (build_of run.run) report.end) at is
    (runs_leave_clean meaning words env order first last err report run)) done lines ready in
    let cleared = bare work.plan (files_of old) in
    let job = job_of_node meaning (command_of work) (lines_on work) node (jobs_from 0 work.plan) cleared
    (job-among work node (makes-job (node_at work.plan node) makes)) in
    subst (λ n. files_of new (node_at work.plan n).name ≡ clean_files_of meaning work cleared (node_at work.plan n).name)
    job.2
    (left.same job.0 job.1 (subst (λ n. makes_file (node_at work.plan n) ≡ true) (sym job.2) makes))

pub runs_leave_files : RunsLeaveCleanFiles
runs_leave_files meaning words env order first last err report run old new at is has done start sound node makes =
    by (build_of run.run) refl has
  where
    by : (b : Option Built) → build_of run.run ≡ b → HasBuilt b
        → files_of new (node_at sound.work.plan node).name
        ≡ clean_files_of meaning sound.work (bare sound.work.plan (files_of old)) (node_at sound.work.plan node).name
    by None here built = absurd built
    by (Some (dry planned_at)) here built = absurd built
    by (Some (build planned_at work tasks items)) here built =
        let its = sound_files_make_sound_runs meaning words env order first last err report run old new planned_at
        work tasks items at is here start sound in
        sound-files meaning words env order first last err report run old new planned_at sound.work sound.lines tasks
        items at is (subst (λ it. build_of run.run ≡ Some (build planned_at it tasks items)) its.0 here) done
        (subst (λ it. IsSoundRun meaning env order planned_at it sound.lines old) its.0 its.1) node makes

pub runs_may_follow : RunsMayFollow
runs_may_follow meaning words env order first last err report run old new at is none start sound idle =
    by (build_of run.run) refl
  where
    Follows : Work → Type 0
    Follows work = IsTrueStart meaning new
        × ((path : List ℕ)
        → IsSource (clean_plan work sound.lines) (clean_jobs_of meaning work (bare work.plan (files_of old))) path
        → files_of new path ≡ files_of old path)

    happened : Run meaning old new
    happened = told-at (Run meaning) at is run.happened

    lawful : IsLawful meaning new
    lawful = runs_stay_lawful meaning old new happened start.lawful

    unbuilt : LeavesUnbuilt meaning (files_of old) old new (build_of run.run)
    unbuilt = follows-left meaning env order old start sound first last
        (record { before = err.before; after = run.run.err_at }) run.run.went new at is none run.run.followed

    -- where there is no build, no file was changed
    left : Left meaning (files_of old) old new → KeptApart (build_of run.run) new → Follows sound.work
    left files apart = (
      record {
        lawful = lawful;
        idle = idle;
        truth = subst (IsTrueHistory meaning.next) same
            (told-at (StaysTrue meaning (build_of run.run)) at is run.meta_files start.lawful start.idle start.truth
            files.events []
            (files.longer_is ∙ ap (λ (l : List Happening). old.events ++ l) (sym (append-nil files.events)))
            files.leave (subst (KeptApart (build_of run.run)) (sym same) apart));
      },
      λ path source. ap (λ (files : Store). files path) files.files,
    )
      where
        same : longer old files.events ≡ new
        same = same-history (longer old files.events) new (sym happened.base) (sym files.longer_is)

    by : (b : Option Built) → build_of run.run ≡ b → Follows sound.work
    by None here =
        left (subst (LeavesUnbuilt meaning (files_of old) old new) here unbuilt)
        (subst (λ b. KeptApart b new) (sym here) tt)
    by (Some (dry planned_at)) here = absurd (subst (LeavesUnbuilt meaning (files_of old) old new) here unbuilt)
    by (Some (build planned_at work tasks items)) here =
        let its = sound_files_make_sound_runs meaning words env order first last err report run old new planned_at
        work tasks items at is here start sound in
        let stays = runs_stay_true meaning words env order first last err report run old new planned_at work sound.lines
        tasks items at is here its.1 in
        subst Follows its.0 (record { lawful = lawful; idle = idle; truth = stays.1 }, stays.2)
