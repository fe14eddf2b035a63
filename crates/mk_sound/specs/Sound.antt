-- What is asked of a clean build, and of nothing else, so that runs leave what it leaves: what its
-- jobs read and change is declared, and their commands ask nothing of what builds change.
use Rattle.std.specs.Prelude.{◌≡◌, ℕ, ◌<◌, List, [], Option, Some, None, Ok, true, false, slice_get}
use Rattle.std.specs.List.{AllByRecursion}
use Rattle.mk_clean.specs.Clean.{CleanJob, IsAmong}
use Rattle.mk_clean.specs.Declared.{IsDeclared, IsSource}
use Rattle.mk_cli.specs.declared.order.Order.{Order}
use Rattle.mk_decision.specs.Decisions.{Work, source_names}
use Rattle.mk_decision.specs.Makers.{jobs_of}
use Rattle.mk_headline.specs.Plans.{clean_plan, has_job}
use Rattle.mk_headline.specs.Premises.{GoesByMetaMode, IsWellMade}
use Rattle.mk_looks.specs.Looks.{looks_for_newer}
use Rattle.mk_meta.specs.TrueHistory.{IsTrueHistory}
use Rattle.mk_modes.specs.Building.{Point}
use Rattle.mk_modes.specs.Modes.{Held}
use Rattle.mk_modes.specs.declared.report.End.TheVariants.{Done}
use Rattle.mk_modes.specs.declared.report.End.{End}
use Rattle.mk_modes.specs.declared.report.Report.{Report}
use Rattle.mk_plan.specs.Newer.{task_names}
use Rattle.mk_plan.specs.Plans.{node_at}
use Rattle.mk_plan.specs.Tasks.{setting_of, task_with}
use Rattle.mk_plan.specs.declared.plan.NodeState.TheVariants.{Settled}
use Rattle.mk_run.specs.CleanRuns.{IsPlannedOn, LeavesCleanFiles, bare, by_files, clean_jobs_of}
use Rattle.mk_run.specs.CleanRuns.{task_on}
use Rattle.mk_run.specs.TrueRuns.{Built, IsTrueOrderRun, build, build_of, dry}
use Rattle.mk_scopes.specs.declared.scopes.Env.{Env}
use Rattle.mk_trace.specs.Builds.{Makes, build_after_all, first_build}
use Rattle.mk_trace.specs.Calls.{GivesUpLast}
use Rattle.mk_trace.specs.Items.{Happened, Item}
use Rattle.mk_trace.specs.Runs.{Tasks}
use Rattle.mk_trace.specs.TrueBuilds.{LeavesFiles, longer}
use Rattle.mk_values.specs.declared.facts.Asked.{Asked}
use Rattle.mk_world.specs.Deeds.{Store}
use Rattle.mk_world.specs.History.{files_of, state_of}
use Rattle.mk_world.specs.Lawful.{IsLawful}
use Rattle.mk_world.specs.Talks.{Meaning}
use Rattle.mk_world.specs.Told.{Told}
use Rattle.mk_world.specs.declared.history.Happening.{Happening}
use Rattle.mk_world.specs.declared.history.History.{History}

-- At its turn in the clean build a node has these lines. No name of the newer sources is looked up
-- in its commands, and `exists` is asked of sources alone.
pub record HasItsTask (work : Work) (tasks : Tasks) (all : List CleanJob) (one : CleanJob)
    : Type 0 where
  pub asked : List Asked
  pub task : task_on work one.node one.before
      ≡ Ok (task_with work.variables work.mode.exports (node_at work.plan one.node).name (tasks one.node), asked)
  pub no_newer : looks_for_newer (task_names (setting_of work.variables work.lists (by_files one.before))
      work.suffixes work.plan one.node (source_names work one.node) work.mode work.flags []) ≡ false
  pub sources : (question : Asked) → IsAmong question asked
      → IsSource (clean_plan work tasks) all question.path

-- The clean build of this work on these files, whose jobs have these lines, is sound: it goes by
-- meta mode, what its jobs read and change is declared, and so is what their commands ask.
pub record IsSound (meaning : Meaning) (work : Work) (tasks : Tasks) (files : Store) : Type 0 where
  pub mode : GoesByMetaMode work tasks
  pub declared : IsDeclared (clean_plan work tasks) (clean_jobs_of meaning work (bare work.plan files))
  pub tasks_are : (one : CleanJob) → IsAmong one (clean_jobs_of meaning work (bare work.plan files))
      → HasItsTask work tasks (clean_jobs_of meaning work (bare work.plan files)) one

-- The nodes that are settled so far, and have jobs, have these lines in a build.
abbrev pub HaveLines : Work → Tasks → Tasks → List Item → Type 0
HaveLines work lines tasks items =
    (node : ℕ) → has_job (node_at work.plan node) ≡ true
    → slice_get (build_after_all work tasks (first_build work) items).run.nodes node ≡ Some Settled
    → tasks node ≡ lines node

-- A build has the tasks of the clean build, where that is sound, whatever has failed so far.
abbrev pub BuildsHaveCleanTasks : Type 0
BuildsHaveCleanTasks =
    (meaning : Meaning) (work : Work) (lines tasks : Tasks) (items : List Item) (old new : History)
    → IsLawful meaning old → (state_of old).children ≡ [] → IsTrueHistory meaning.next old
    → IsWellMade work
    → IsSound meaning work lines (files_of old)
    → Makes work tasks (first_build work) items → Happened meaning items old new → GivesUpLast items
    → HaveLines work lines tasks items

-- Before a run, in which at least one job may run at once: no child runs, the history is one that
-- may have come about, and each meta file that stands tells what happened. The commands that the
-- run asks with `!=` change no file. The makefiles give the work of the run also where made files
-- and meta files are away, and the clean build of it, whose jobs have these lines, is sound.
pub record IsSoundRun (meaning : Meaning) (env : Env) (order : Order) (planned_at : Option History) (work : Work)
    (lines : Tasks) (old : History) : Type 0
  where
    pub room : 0 < jobs_of work
    pub lawful : IsLawful meaning old
    pub idle : (state_of old).children ≡ []
    pub truth : IsTrueHistory meaning.next old
    pub asks : (asked : List Happening) → planned_at ≡ Some (longer old asked)
        → AllByRecursion LeavesFiles asked
    pub planned : IsPlannedOn meaning env order (bare work.plan (files_of old)) work
    pub sound : IsSound meaning work lines (files_of old)

-- Where a run has built all, and its clean build is sound, it leaves what that leaves.
abbrev pub LeavesWhatIsSound : Meaning → Env → Order → Option Built → End → History → History
    → Type 0
LeavesWhatIsSound meaning env order None end old new = Unit {0}
LeavesWhatIsSound meaning env order (Some (dry planned_at)) end old new = Unit {0}
LeavesWhatIsSound meaning env order (Some (build planned_at work tasks items)) end old new =
    end ≡ Done → (lines : Tasks) → IsSoundRun meaning env order planned_at work lines old
    → LeavesCleanFiles meaning work tasks items old new work (bare work.plan (files_of old))

-- And so does each run of the program, where the world tells.
abbrev pub SoundRunsLeaveClean : Type 0
SoundRunsLeaveClean =
    (meaning : Meaning) (words : List (List ℕ)) (env : Env) (order : Order) (first last : Point) (err : Held)
    (report : Report) (run : IsTrueOrderRun meaning words env order first last err report)
    → Told first.history last.history (LeavesWhatIsSound meaning env order (build_of run.run) report.end)

-- When a run has built, and its clean build is sound, the history behind it may have come about,
-- each meta file that stands tells what happened, and each source, which no job changes and no
-- build leaves, stands as it did: whatever failed, whoever was given up, and however the run ended.
-- So the next run begins as this one did.
abbrev pub SoundRunsStayTrue : Type 0
SoundRunsStayTrue =
    (meaning : Meaning) (words : List (List ℕ)) (env : Env) (order : Order) (first last : Point) (err : Held)
    (report : Report) (run : IsTrueOrderRun meaning words env order first last err report) (old new : History)
    (planned_at : Option History) (work : Work) (lines tasks : Tasks) (items : List Item)
    → first.history ≡ Some old → last.history ≡ Some new
    → build_of run.run ≡ Some (build planned_at work tasks items)
    → IsSoundRun meaning env order planned_at work lines old
    → IsLawful meaning new × IsTrueHistory meaning.next new
    × ((path : List ℕ)
    → IsSource (clean_plan work lines) (clean_jobs_of meaning work (bare work.plan (files_of old))) path
    → files_of new path ≡ files_of old path)
