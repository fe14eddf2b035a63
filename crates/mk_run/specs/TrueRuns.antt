-- That the meta files which a run leaves tell what happened, and that a build leaves what the clean
-- build leaves.
use Rattle.std.specs.Prelude.{◌≡◌, ℕ, List, [], ◌++◌, Option, Some, None}
use Rattle.std.proofs.Common.{inl, inr}
use Rattle.std.specs.List.{AllByRecursion}
use Rattle.mk_cli.specs.declared.order.Order.{Order}
use Rattle.mk_decision.specs.Decisions.{Work}
use Rattle.mk_decision.specs.Makers.{work_on}
use Rattle.mk_dry.specs.TrueRuns.{LeavesMetaFiles}
use Rattle.mk_meta.specs.TrueHistory.{IsTrueHistory}
use Rattle.mk_scopes.specs.declared.scopes.Env.{Env}
use Rattle.mk_trace.specs.Items.{Item}
use Rattle.mk_trace.specs.Runs.{Tasks}
use Rattle.mk_trace.specs.TrueBuilds.{IsApart, LeavesFiles, behind, longer}
use Rattle.mk_world.specs.History.{files_of, state_of}
use Rattle.mk_world.specs.Lawful.{IsLawful}
use Rattle.mk_world.specs.Runs.{Run}
use Rattle.mk_world.specs.Talks.{Meaning}
use Rattle.mk_world.specs.Told.{Told}
use Rattle.mk_world.specs.declared.history.Happening.{Happening}
use Rattle.mk_world.specs.declared.history.History.{History}
use Rattle.mk_modes.specs.Building.{Point, point}
use Rattle.mk_run.specs.CleanRuns.{IsReadyRun, LeavesCleanFiles, bare}
use Rattle.mk_run.specs.Completeness.{Completes}
use Rattle.mk_modes.specs.Meaning.{Meant, only, prints, audits, explains, queries, shows}
use Rattle.mk_modes.specs.Meaning.{builds, by_reading}
use Rattle.mk_modes.specs.Modes.{Goes, Held}
use Rattle.mk_run.specs.Runs.{IsOrderRun}
use Rattle.mk_modes.specs.declared.building.Went.{Went}
use Rattle.mk_modes.specs.declared.report.End.{End}
use Rattle.mk_modes.specs.declared.report.End.TheVariants.{Done}
use Rattle.mk_modes.specs.declared.report.Report.{Report}

-- what a run built or showed: what the history held when its plan was made, and what a build did
pub data Built : Type 0 where
  build : (planned_at : Option History) → (work : Work) → (tasks : Tasks) → (items : List Item)
      → Built
  dry : (planned_at : Option History) → Built

abbrev pub built_in : (meaning : Meaning) (meant : Meant) (first last : Point) (went : Went)
    → Goes meaning meant first last went → Option Built
built_in meaning (only outcome) first last went goes = None
built_in meaning (prints variables lists all) first last went goes = None
built_in meaning (audits env made order) first last went goes = None
built_in meaning (explains made flags) first last went goes = None
built_in meaning (queries made flags) first last went goes = None
built_in meaning (shows made flags) first last went (inl unplanned) = None
built_in meaning (shows made flags) first last went (inr is) = Some (dry is.planned_at)
built_in meaning (builds made flags) first last went (inl unplanned) = None
built_in meaning (builds made flags) first last went (inr is) =
    Some (build is.planned_at (work_on is.nodes made flags) is.built.true_build.build.tasks
    is.built.true_build.build.items)

-- the build or the dry run of a run, where it comes to one
abbrev pub build_of : {meaning : Meaning} {words : List (List ℕ)} {env : Env} {order : Order}
    {first last : Point} {err : Held} {report : Report}
    → IsOrderRun meaning words env order first last err report → Option Built
build_of {meaning} {words} {env} {order} {first} {last} {err} {report} run =
    built_in meaning (by_reading env order run.followed.read) (point run.followed.read_at first.out) last
    run.went run.followed.goes

-- At this moment of a run, the jobs of its build have kept apart so far, or no child of its dry run
-- has changed a meta file.
abbrev pub KeptApart : Option Built → History → Type 0
KeptApart None now = Unit {0}
KeptApart (Some (build planned_at work tasks items)) now =
    (planned : History) (so_far later : List Item) → planned_at ≡ Some planned
    → items ≡ so_far ++ later → now ≡ behind planned so_far → IsApart work tasks so_far
KeptApart (Some (dry planned_at)) now =
    (planned : History) (so_far : List Happening) → planned_at ≡ Some planned
    → now ≡ longer planned so_far → AllByRecursion LeavesMetaFiles so_far

-- Where no child runs before a run, the history is one that may have come about, and meta files
-- tell what happened, they do so at every moment of the run up to which the commands that make asks
-- have changed no file and jobs have kept apart.
abbrev pub StaysTrue : Meaning → Option Built → History → History → Type 0
StaysTrue meaning built old new =
    IsLawful meaning old → (state_of old).children ≡ [] → IsTrueHistory meaning.next old
    → (so_far later : List Happening) → new.events ≡ old.events ++ (so_far ++ later)
    → AllByRecursion LeavesFiles so_far → KeptApart built (longer old so_far)
    → IsTrueHistory meaning.next (longer old so_far)

-- Where a run has built and all is made, and it was ready for that, it leaves what the clean build
-- of what its words ask for leaves: the one that reads and plans anew.
abbrev pub LeavesClean : Meaning → Env → Order → Option Built → End → History → History → Type 0
LeavesClean meaning env order None end old new = Unit {0}
LeavesClean meaning env order (Some (dry planned_at)) end old new = Unit {0}
LeavesClean meaning env order (Some (build planned_at work tasks items)) end old new =
    end ≡ Done → (clean : Work) → IsReadyRun meaning env order planned_at work tasks old clean
    → LeavesCleanFiles meaning work tasks items old new clean (bare work.plan (files_of old))

-- A run, whose meta files tell what happened where those before it did: whatever it is that was
-- built, printed or refused, and however the run ended. What happened in it was added to the
-- history, and each event may happen behind those before it, so that a history that may have come
-- about is one behind the run, too. Where the run has built all, it leaves what the clean build
-- leaves, and where nothing is wrong it ends well.
pub record IsTrueOrderRun (meaning : Meaning) (words : List (List ℕ)) (env : Env) (order : Order)
    (first last : Point) (err : Held) (report : Report) : Type 0
  where
    pub run : IsOrderRun meaning words env order first last err report
    pub happened : Told first.history last.history (Run meaning)
    pub meta_files : Told first.history last.history (StaysTrue meaning (build_of run))
    pub clean : Told first.history last.history (LeavesClean meaning env order (build_of run) report.end)
    pub complete : Completes run
