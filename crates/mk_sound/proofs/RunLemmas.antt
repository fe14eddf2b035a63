-- A run whose clean build is sound is ready, and so leaves what the clean build leaves.
use Rattle.std.proofs.Common.{◌≡◌, ◌⊎◌, ◌∙◌, ℕ, true, List, [], Option, Some, None, Ok, if◌then◌else◌}
use Rattle.std.proofs.Common.{inl, inr, refl, sym, ap, subst}
use Rattle.std.specs.List.{AllByRecursion}
use Rattle.mk_clean.proofs.CleanLemmas.{node_of_job}
use Rattle.mk_clean.specs.Clean.{CleanJob, DependsOn, source, through, IsAmong, AllWell}
use Rattle.mk_clean.specs.Declared.{IsDeclared, IsMadeBefore, IsOwn, IsPrivate, IsSource}
use Rattle.mk_cli.specs.declared.order.Order.{Order}
use Rattle.mk_decision.specs.Decisions.{Work}
use Rattle.mk_decision.specs.Makers.{work_on}
use Rattle.mk_flags.specs.declared.Flags.{Flags}
use Rattle.mk_graph.specs.Nodes as graph
use Rattle.mk_graph.specs.declared.Made.{Made}
use Rattle.mk_headline.proofs.DecideLemmas.{makes-job}
use Rattle.mk_headline.proofs.EndLemmas.{all-settled}
use Rattle.mk_headline.proofs.PlanLemmas.{job-among, job-has}
use Rattle.mk_headline.specs.Plans.{clean_plan, has_job, jobs_from, lines_of}
use Rattle.mk_headline.specs.Premises.{IsWellMade}
use Rattle.mk_makefile.specs.Questions.{AreAsked}
use Rattle.mk_meta.specs.Jobs.{working}
use Rattle.mk_meta.specs.TrueHistory.{IsTrueHistory}
use Rattle.mk_modes.specs.Building.{Point, point}
use Rattle.mk_modes.specs.Meaning.{Meant, only, prints, audits, explains, queries, shows, builds, by_reading}
use Rattle.mk_modes.specs.Modes.{Followed, Goes, Held}
use Rattle.mk_modes.specs.declared.building.Went.{Went}
use Rattle.mk_modes.specs.declared.report.End.{End}
use Rattle.mk_modes.specs.declared.report.Report.{Report}
use Rattle.mk_modes.specs.declared.report.End.TheVariants.{Done}
use Rattle.mk_plan.proofs.LookLemmas.{ByLooks-told}
use Rattle.mk_plan.specs.Plans.{node_at, planned}
use Rattle.mk_plan.specs.Tasks.{task_with}
use Rattle.mk_plan.specs.declared.plan.PlanNode.{PlanNode}
use Rattle.mk_pool.specs.Pool.{AreDistinct}
use Rattle.mk_run.proofs.CleanRunLemmas.{asked-files, asked-history, asked-state, done-before, done-build, well-made}
use Rattle.mk_run.proofs.TrueRunLemmas.{asked-then, goes-told, looks-ask, questions-ask, told-at, told-before}
use Rattle.mk_run.specs.CleanRuns.{IsReadyRun, bare, clean_jobs_of, lines_on, task_on}
use Rattle.mk_run.specs.TrueRuns.{Built, IsTrueOrderRun, LeavesClean, build, build_of, built_in, dry}
use Rattle.mk_scopes.specs.declared.scopes.Env.{Env}
use Rattle.mk_sound.proofs.WalkLemmas.{have_clean_tasks, source-behind, truth-behind}
use Rattle.mk_sound.specs.Sound.{IsSound, IsSoundRun, LeavesWhatIsSound, SoundRunsLeaveClean, SoundRunsStayTrue}
use Rattle.mk_trace.proofs.AlongLemmas.{OnlyAsked, questions-children}
use Rattle.mk_trace.proofs.QuestionLemmas.{questions-keep-truth}
use Rattle.mk_trace.specs.Builds.{IsBuild, Makes, build_after_all, command_of, first_build, moment}
use Rattle.mk_trace.specs.Calls.{GivesUpLast}
use Rattle.mk_trace.specs.Ends.{IsOver, StandsBy, is_cut}
use Rattle.mk_trace.specs.Items.{Happened, Item}
use Rattle.mk_trace.specs.Runs as run
use Rattle.mk_trace.specs.TrueBuilds.{LeavesFiles}
use Rattle.mk_world.proofs.LawLemmas.{runs_stay_lawful}
use Rattle.mk_world.specs.Deeds.{Store}
use Rattle.mk_world.specs.History.{State as Stand, files_of, state_of}
use Rattle.mk_world.specs.Lawful.{IsLawful}
use Rattle.mk_world.specs.Looks.{OnlyLooks}
use Rattle.mk_world.specs.Runs.{Run}
use Rattle.mk_world.specs.Talks.{Meaning}
use Rattle.mk_world.specs.Told.{Told}
use Rattle.mk_world.specs.declared.command.TaskLine.{TaskLine}
use Rattle.mk_world.specs.declared.history.History.{History}

-- a plan with other lines of its jobs

module _ (work : Work) (lines tasks : run.Tasks) (all : List CleanJob)
    (same : (one : CleanJob) → IsAmong one all → tasks one.node ≡ lines one.node)
  where
    depends-too : (node other : ℕ) → DependsOn (clean_plan work lines) node other
        → DependsOn (clean_plan work tasks) node other
    depends-too node other (source one among) = source one among
    depends-too node other (through between one depends among) =
        through between one (depends-too node between depends) among

    source-too : (path : List ℕ) → IsSource (clean_plan work lines) all path → IsSource (clean_plan work tasks) all path
    source-too path is = record { alone = is.alone; no_made = is.no_made; no_meta = is.no_meta }

    reads-too : (one : CleanJob) (path : List ℕ)
        → IsSource (clean_plan work lines) all path ⊎ IsMadeBefore (clean_plan work lines) all one path
        → IsSource (clean_plan work tasks) all path ⊎ IsMadeBefore (clean_plan work tasks) all one path
    reads-too one path (inl is) = inl (source-too path is)
    reads-too one path (inr is) = inr (record {
      maker = is.maker;
      among = is.among;
      made = is.made;
      name = is.name;
      depends = depends-too one.node is.maker.node is.depends;
    })

    changes-too : (one : CleanJob) (path : List ℕ)
        → IsOwn (clean_plan work lines) one path ⊎ IsPrivate (clean_plan work lines) all one path
        → IsOwn (clean_plan work tasks) one path ⊎ IsPrivate (clean_plan work tasks) all one path
    changes-too one path (inl is) = inl (record { made = is.made; name = is.name })
    changes-too one path (inr is) = inr (record { no_node = is.no_node; alone = is.alone })

    lines-same : (one : CleanJob) → IsAmong one all → lines_of work tasks one.node ≡ lines_of work lines one.node
    lines-same one among =
        ap (λ (l : List TaskLine). if has_job (node_at work.plan one.node) then working l else []) (same one among)

    declared-too : IsDeclared (clean_plan work lines) all → IsDeclared (clean_plan work tasks) all
    declared-too is = record {
      reads = λ one among path reads. reads-too one path (is.reads one among path reads);
      changes = λ one among path changes. changes-too one path (is.changes one among path changes);
      leaves = λ one among well made.
          let left = is.leaves one among (subst (λ (l : List TaskLine). AllWell l one.doings) (lines-same one among) well)
          made in
          record { bytes = left.bytes; is = left.is };
      no_meta = is.no_meta;
    }

-- A run of a sound clean build, where its plan is made: questions have changed no file, so all is as at its entry.
module _ (meaning : Meaning) (env : Env) (order : Order) (made : Made) (flags : Flags) (nodes : List PlanNode)
    (lines : run.Tasks) (planned_at : Option History) (old planned_then : History) (files : Store)
    (here : planned_at ≡ Some planned_then) (asked : OnlyAsked meaning old planned_then)
    (is : planned files made flags.requested flags.query ≡ Ok nodes) (differ : AreDistinct (graph.names_of made.graph))
    (ready : IsSoundRun meaning env order planned_at (work_on nodes made flags) lines old)
  where
    abbrev run_work : Work
    run_work = work_on nodes made flags

    leave : AllByRecursion LeavesFiles asked.run.events
    leave = ready.asks asked.run.events (here ∙ ap (λ h. Some h) (sym (asked-history meaning old planned_then asked)))

    start : files_of planned_then ≡ files_of old
    start = asked-files meaning old planned_then asked leave

    lawful : IsLawful meaning planned_then
    lawful = runs_stay_lawful meaning old planned_then asked.run ready.lawful

    idle : (state_of planned_then).children ≡ []
    idle = ap (λ (s : Stand). s.children) (asked-state meaning old planned_then asked)
        ∙ (questions-children (state_of old) asked.run.events asked.questions ∙ ready.idle)

    truth : IsTrueHistory meaning.next planned_then
    truth = subst (IsTrueHistory meaning.next) (asked-history meaning old planned_then asked)
        (questions-keep-truth meaning old asked.run.events asked.questions leave ready.truth)

    well_then : IsWellMade run_work
    well_then = well-made files made flags nodes is differ

    sound : IsSound meaning run_work lines (files_of planned_then)
    sound = subst (IsSound meaning run_work lines) (sym start) ready.sound

    -- meta files stay true, whatever the end
    stays-true : (tasks : run.Tasks) (items : List Item) (new : History)
        → Makes run_work tasks (first_build run_work) items → Happened meaning items planned_then new → GivesUpLast items → IsTrueHistory meaning.next new
    stays-true tasks items new makes happens last =
        truth-behind meaning run_work lines tasks planned_then lawful idle truth well_then sound items new makes happens
        last

    -- and sources stand as they did
    sources-stand : (tasks : run.Tasks) (items : List Item) (new : History)
        → Makes run_work tasks (first_build run_work) items → Happened meaning items planned_then new
        → GivesUpLast items → (path : List ℕ)
        → IsSource (clean_plan run_work lines) (clean_jobs_of meaning run_work (bare run_work.plan (files_of old))) path
        → files_of new path ≡ files_of old path
    sources-stand tasks items new makes happens last path still =
        source-behind meaning run_work lines tasks planned_then lawful idle truth well_then sound items new makes happens
        last path
        (subst (λ (files : Store). IsSource (clean_plan run_work lines)
        (clean_jobs_of meaning run_work (bare run_work.plan files)) path) (sym start) still)
        ∙ ap (λ (files : Store). files path) start

    -- where all is made, the run is ready
    sound-ready : (tasks : run.Tasks) (items : List Item) (new : History)
        → Makes run_work tasks (first_build run_work) items → Happened meaning items planned_then new → GivesUpLast items
        → IsOver run_work None (build_after_all run_work tasks (first_build run_work) items)
        → IsReadyRun meaning env order planned_at run_work tasks old run_work
    sound-ready tasks items new makes happens last over = record {
      lawful = ready.lawful;
      idle = ready.idle;
      truth = ready.truth;
      asks = ready.asks;
      mode = record {
        by_records = ready.sound.mode.by_records;
        compared = λ node is_made.
            subst (AllByRecursion (λ (line : TaskLine). line.compared ≡ true))
            (sym (same node (makes-job (node_at run_work.plan node) is_made))) (ready.sound.mode.compared node is_made);
        none_ignored = ready.sound.mode.none_ignored;
        no_meta_names = ready.sound.mode.no_meta_names;
      };
      alike = record {
        planned = ready.planned;
        plan = refl;
        same_tasks = λ one among.
            let its = ready.sound.tasks_are one among in (
              its.asked,
              subst (λ (l : List TaskLine). task_on run_work one.node one.before
                  ≡ Ok (
                    task_with run_work.variables run_work.mode.exports (node_at run_work.plan one.node).name l,
                    its.asked,
                  ))
                  (sym (same-job one among)) its.task,
            );
      };
      declared = declared-too run_work lines tasks
          (clean_jobs_of meaning run_work (bare run_work.plan (files_of old))) same-job ready.sound.declared;
    }
      where
        -- the nodes with jobs have the lines of the clean build
        same : (node : ℕ) → has_job (node_at run_work.plan node) ≡ true → tasks node ≡ lines node
        same node has =
            have_clean_tasks meaning run_work lines tasks items planned_then new lawful idle truth well_then sound makes
            happens last node has
            (all-settled run_work tasks items well_then makes ready.room over node
            (job-has run_work node (job-among run_work node has)).0)

        same-job : (one : CleanJob) → IsAmong one (clean_jobs_of meaning run_work (bare run_work.plan (files_of old)))
            → tasks one.node ≡ lines one.node
        same-job one among =
            same one.node (job-has run_work one.node
            (node_of_job meaning (command_of run_work) (lines_on run_work) (jobs_from 0 run_work.plan)
            (bare run_work.plan (files_of old)) one among)).1

-- what follows the reading

-- what is said of a run with a sound clean build: what it leaves where all is made, and that meta files stay true
abbrev KeepsTruth : Meaning → Env → Order → Option Built → History → History → Type 0
KeepsTruth meaning env order None old new = Unit {0}
KeepsTruth meaning env order (Some (dry planned_at)) old new = Unit {0}
KeepsTruth meaning env order (Some (build planned_at work tasks items)) old new =
    (lines : run.Tasks) → IsSoundRun meaning env order planned_at work lines old
    → IsTrueHistory meaning.next new
    × ((path : List ℕ)
    → IsSource (clean_plan work lines) (clean_jobs_of meaning work (bare work.plan (files_of old))) path
    → files_of new path ≡ files_of old path)

abbrev IsSoundly : Meaning → Env → Order → Option Built → End → History → History → Type 0
IsSoundly meaning env order built end old new =
    LeavesWhatIsSound meaning env order built end old new × KeepsTruth meaning env order built old new

goes-sound : (meaning : Meaning) (env : Env) (order : Order) (meant : Meant) (end : End) (old read : History)
    (first last : Point) (went : Went) (new : History) → OnlyAsked meaning old read → first.history ≡ Some read
    → last.history ≡ Some new → (end ≡ Done → went.end ≡ Done) → (goes : Goes meaning meant first last went)
    → LeavesClean meaning env order (built_in meaning meant first last went goes) end old new
    → IsSoundly meaning env order (built_in meaning meant first last went goes) end old new
goes-sound meaning env order (only outcome) end old read first last went new asked at is well goes clean = (tt, tt)
goes-sound meaning env order (prints variables lists all) end old read first last went new asked at is well goes clean =
    (tt, tt)
goes-sound meaning env order (audits its made given) end old read first last went new asked at is well goes clean =
    (tt, tt)
goes-sound meaning env order (explains made flags) end old read first last went new asked at is well goes clean = (tt, tt)
goes-sound meaning env order (queries made flags) end old read first last went new asked at is well goes clean = (tt, tt)
goes-sound meaning env order (shows made flags) end old read first last went new asked at is well (inl unplanned) clean =
    (tt, tt)
goes-sound meaning env order (shows made flags) end old read first last went new asked at is well (inr shown) clean = (tt, tt)
goes-sound meaning env order (builds made flags) end old read first last went new asked at is well (inl unplanned)
    clean = (tt, tt)
goes-sound meaning env order (builds made flags) end old read first last went new asked at is well (inr built) clean =
    planned_from built.planned_at refl
  where
    work : Work
    work = work_on built.nodes made flags

    one : IsBuild meaning work (is_cut built.result) (moment built.planned_at first.out [])
        (moment last.history last.out went.events) (StandsBy work built.result)
    one = built.built.true_build.build

    planned_from : (point_at : Option History) → built.planned_at ≡ point_at
        → IsSoundly meaning env order (Some (build built.planned_at work one.tasks one.items)) end old new
    planned_from None here = absurd (told-before _ here is one.told)
    planned_from (Some planned_then) here = (
      (λ done lines ready.
          clean done work
          (sound-ready meaning env order made flags built.nodes lines built.planned_at old planned_then
          (files_of read) here asked_then looked.1 built.names_differ ready one.tasks one.items new one.makes told
          one.gives_up
          (subst (λ r. StandsBy work r (build_after_all work one.tasks (first_build work) one.items))
          (done-build built.nodes built.result went.end (well done) built.end) one.stands))),
      (λ lines ready. (
        stays-true meaning env order made flags built.nodes lines built.planned_at old planned_then (files_of read)
            here asked_then looked.1 built.names_differ ready one.tasks one.items new one.makes told one.gives_up,
        sources-stand meaning env order made flags built.nodes lines built.planned_at old planned_then (files_of read)
            here asked_then looked.1 built.names_differ ready one.tasks one.items new one.makes told one.gives_up,
      )),
    )
      where
        looked : OnlyLooks read planned_then
            × (planned (files_of read) made flags.requested flags.query ≡ Ok built.nodes)
        looked = told-at _ at here (ByLooks-told built.planned)

        asked_then : OnlyAsked meaning old planned_then
        asked_then = asked-then meaning old read planned_then asked (looks-ask meaning read planned_then looked.0)

        told : Happened meaning one.items planned_then new
        told = told-at _ here is one.told

follows-sound : (meaning : Meaning) (env : Env) (order : Order) (first last : Point) (err : Held)
    (went : Went) (end : End) (old new : History) → first.history ≡ Some old → last.history ≡ Some new
    → (end ≡ Done → went.end ≡ Done) → (does : Followed meaning env order first last err went)
    → LeavesClean meaning env order
    (built_in meaning (by_reading env order does.read) (point does.read_at first.out) last went does.goes) end old new
    → IsSoundly meaning env order
    (built_in meaning (by_reading env order does.read) (point does.read_at first.out) last went does.goes) end old new
follows-sound meaning env order first last err went end old new at is well does clean = read_from does.read_at refl
  where
    read_from : (read_at : Option History) → does.read_at ≡ read_at
        → IsSoundly meaning env order
        (built_in meaning (by_reading env order does.read) (point does.read_at first.out) last went does.goes) end old
        new
    read_from None here =
        absurd (goes-told meaning (by_reading env order does.read) (point does.read_at first.out) last went new here
        is does.goes)
    read_from (Some read_then) here =
        goes-sound meaning env order (by_reading env order does.read) end old read_then
        (point does.read_at first.out) last went new
        (questions-ask meaning does.reads.questions old read_then
        (told-at (AreAsked meaning does.reads.questions) at here does.reads.asked)) here is well does.goes clean

runs-sound : (meaning : Meaning) (words : List (List ℕ)) (env : Env) (order : Order) (first last : Point) (err : Held)
    (report : Report) (run : IsTrueOrderRun meaning words env order first last err report)
    → Told first.history last.history (IsSoundly meaning env order (build_of run.run) report.end)
runs-sound meaning words env order first last err report run = by first.history last.history refl refl run.clean
  where
    by : (before after : Option History) → first.history ≡ before → last.history ≡ after
        → Told before after (LeavesClean meaning env order (build_of run.run) report.end)
        → Told before after (IsSoundly meaning env order (build_of run.run) report.end)
    by before None at is clean = tt
    by None (Some new) at is clean = absurd clean
    by (Some old) (Some new) at is clean =
        follows-sound meaning env order first last (record { before = err.before; after = run.run.err_at }) run.run.went
        report.end old new at is (done-before words run.run.went.end report.end _ run.run.closed) run.run.followed clean

pub runs_leave_clean : SoundRunsLeaveClean
runs_leave_clean meaning words env order first last err report run =
    by first.history last.history (runs-sound meaning words env order first last err report run)
  where
    by : (before after : Option History)
        → Told before after (IsSoundly meaning env order (build_of run.run) report.end)
        → Told before after (LeavesWhatIsSound meaning env order (build_of run.run) report.end)
    by before None both = tt
    by None (Some new) both = absurd both
    by (Some old) (Some new) both = both.0

-- and meta files stay true behind every end
pub runs_stay_true : SoundRunsStayTrue
runs_stay_true meaning words env order first last err report run old new planned_at work lines tasks items at is built
    ready =
    let left = subst (λ b. IsSoundly meaning env order b report.end old new) built
    (told-at (IsSoundly meaning env order (build_of run.run) report.end) at is
    (runs-sound meaning words env order first last err report run)) in
    let stays = left.1 lines ready in
    (runs_stay_lawful meaning old new (told-at (Run meaning) at is run.happened) ready.lawful, stays.0, stays.1)
