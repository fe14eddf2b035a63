-- What is asked before a run so that it leaves what the clean build leaves: of the history, that it
-- may have come about and that meta files tell what happened; and the rest of the makefiles and of
-- the files that stand there, one premise after the other. Nothing here speaks of what the run will
-- do.
use Rattle.std.specs.Prelude.{◌≡◌, ℕ, ◌<◌, List, [], Option, Some, None, Ok, true, false}
use Rattle.std.specs.List.{AllByRecursion}
use Rattle.mk_answers.specs.OnFiles.{ChangesNone}
use Rattle.mk_clean.specs.Clean.{CleanJob, IsAmong}
use Rattle.mk_clean.specs.Declared.{IsDeclared, IsSource}
use Rattle.mk_cli.specs.declared.order.Order.{Order}
use Rattle.mk_decision.specs.Decisions.{Work}
use Rattle.mk_decision.specs.Makers.{work_on}
use Rattle.mk_graph.specs.declared.Made.{Made}
use Rattle.mk_headline.specs.Plans.{clean_plan, makes_file}
use Rattle.mk_headline.specs.Premises.{GoesByMetaMode}
use Rattle.mk_meta.specs.TrueHistory.{IsTrueHistory}
use Rattle.mk_modes.specs.Building.{Point}
use Rattle.mk_modes.specs.Modes.{Held}
use Rattle.mk_modes.specs.declared.report.End.TheVariants.{Done}
use Rattle.mk_modes.specs.declared.report.Report.{Report}
use Rattle.mk_plan.specs.Plans.{node_at, planned}
use Rattle.mk_reader.specs.OnMaps.{Listings, reading_on}
use Rattle.mk_run.specs.CleanRuns.{IsPlannedOn, bare, clean_files_of, clean_jobs_of}
use Rattle.mk_run.specs.TrueRuns.{Built, IsTrueOrderRun, build, build_of, dry}
use Rattle.mk_scopes.specs.declared.scopes.Env.{Env}
use Rattle.mk_sound.specs.Sound.{HasItsTask, IsSoundRun}
use Rattle.mk_trace.specs.Items.{Item}
use Rattle.mk_trace.specs.Runs.{Tasks}
use Rattle.mk_world.specs.Deeds.{Store}
use Rattle.mk_world.specs.History.{files_of, state_of}
use Rattle.mk_world.specs.Lawful.{IsLawful}
use Rattle.mk_world.specs.Talks.{Meaning}
use Rattle.mk_world.specs.declared.history.History.{History}

-- What is asked of all that happened before a run.
pub record IsTrueStart (meaning : Meaning) (old : History) : Type 0 where
  -- P1. The history may have come about, and no child runs.
  pub lawful : IsLawful meaning old
  pub idle : (state_of old).children ≡ []
  -- P2. Each meta file that stands tells what happened.
  pub truth : IsTrueHistory meaning.next old

-- What is asked of the words, the environment and the files that stand before a run. `lines` are
-- those of each node in the clean build; that reads and plans anew where made files and meta files
-- are away, and runs one job after the other.
pub record AreSound (meaning : Meaning) (env : Env) (order : Order) (files : Store) : Type 0 where
  -- The makefiles on these files are read, and say this, where these are the names in the
  -- directories that they list; and this is the work that the words ask for.
  pub made : Made
  pub listings : Listings
  pub read : (reading_on meaning files listings env order).answer ≡ Ok made
  pub work : Work
  pub planned : planned files made order.flags.requested order.flags.query ≡ Ok work.plan
  pub work_is : work ≡ work_on work.plan made order.flags
  pub lines : Tasks
  -- At least one job may run at once.
  pub room : 0 < order.flags.jobs
  -- P3. The commands that the makefiles ask with `!=` change no file.
  pub asks : AllByRecursion (ChangesNone meaning files listings) (reading_on meaning files listings env order).acts
  -- P4. The build goes by meta mode.
  pub mode : GoesByMetaMode work lines
  -- P5. Plans are alike: the makefiles give this work also where made files and meta files are
  -- away. In the clean build each node has its lines; no name of the newer sources is looked up in
  -- its commands, and these ask `exists` of sources alone.
  pub alike : IsPlannedOn meaning env order (bare work.plan files) work
  pub tasks_are : (one : CleanJob) → IsAmong one (clean_jobs_of meaning work (bare work.plan files))
      → HasItsTask work lines (clean_jobs_of meaning work (bare work.plan files)) one
  -- P6. What the jobs of the clean build read and change is declared.
  pub declared : IsDeclared (clean_plan work lines) (clean_jobs_of meaning work (bare work.plan files))

-- Each run from such files that comes to a build has their work, and is sound: its reading and its
-- plan are those of the files at its entry, and its commands of `!=` change no file.
abbrev pub SoundFilesMakeSoundRuns : Type 0
SoundFilesMakeSoundRuns =
    (meaning : Meaning) (words : List (List ℕ)) (env : Env) (order : Order) (first last : Point) (err : Held)
    (report : Report) (run : IsTrueOrderRun meaning words env order first last err report) (old new : History)
    (planned_at : Option History) (work : Work) (tasks : Tasks) (items : List Item)
    → first.history ≡ Some old → last.history ≡ Some new
    → build_of run.run ≡ Some (build planned_at work tasks items) → IsTrueStart meaning old
    → (sound : AreSound meaning env order (files_of old))
    → (work ≡ sound.work) × IsSoundRun meaning env order planned_at work sound.lines old

-- a run has come to a build
abbrev pub HasBuilt : Option Built → Type 0
HasBuilt None = ⊥
HasBuilt (Some (dry planned_at)) = ⊥
HasBuilt (Some (build planned_at work tasks items)) = Unit {0}

-- When a run from sound files has built all, then each made file that the requested targets need
-- has the bytes that the clean build gives it.
abbrev pub RunsLeaveCleanFiles : Type 0
RunsLeaveCleanFiles =
    (meaning : Meaning) (words : List (List ℕ)) (env : Env) (order : Order) (first last : Point) (err : Held)
    (report : Report) (run : IsTrueOrderRun meaning words env order first last err report) (old new : History)
    → first.history ≡ Some old → last.history ≡ Some new → HasBuilt (build_of run.run)
    → report.end ≡ Done
    → IsTrueStart meaning old → (sound : AreSound meaning env order (files_of old))
    → (node : ℕ) → makes_file (node_at sound.work.plan node) ≡ true
    → files_of new (node_at sound.work.plan node).name
    ≡ clean_files_of meaning sound.work (bare sound.work.plan (files_of old)) (node_at sound.work.plan node).name

-- Behind each run from sound files that is asked for no dry run, whatever failed in it and however
-- it ended, the next run begins as it did, once no child runs; and each source, which no job
-- changes and no build leaves, stands as it did. It is the same whether the run has built, printed,
-- explained or asked, whether its plan was refused, and how far its makefiles were read.
abbrev pub RunsMayFollow : Type 0
RunsMayFollow =
    (meaning : Meaning) (words : List (List ℕ)) (env : Env) (order : Order) (first last : Point) (err : Held)
    (report : Report) (run : IsTrueOrderRun meaning words env order first last err report) (old new : History)
    → first.history ≡ Some old → last.history ≡ Some new → order.flags.dry ≡ false
    → IsTrueStart meaning old
    → (sound : AreSound meaning env order (files_of old)) → (state_of new).children ≡ []
    → IsTrueStart meaning new
    × ((path : List ℕ)
    → IsSource (clean_plan sound.work sound.lines)
    (clean_jobs_of meaning sound.work (bare sound.work.plan (files_of old))) path
    → files_of new path ≡ files_of old path)
