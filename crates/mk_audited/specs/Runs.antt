-- What follows where a run with `--audit` ends well: of the files that stood before it, and of a
-- build behind edits.
use Rattle.std.specs.Prelude.{◌≡◌, ℕ, ◌<◌, ◌++◌, List, [], Some, Ok, true, false}
use Rattle.std.specs.List.{AllByRecursion}
use Rattle.mk_answers.specs.OnFiles.{ChangesNone}
use Rattle.mk_clean.specs.Clean.{CleanJob, IsAmong, clean_build}
use Rattle.mk_cli.specs.declared.order.Order.{Order}
use Rattle.mk_decision.specs.Decisions.{Work}
use Rattle.mk_decision.specs.Makers.{work_on}
use Rattle.mk_edited.specs.Edited.{AreEditedAt, Edited, ReachNoOther, Reached, ReachedAreDeclared}
use Rattle.mk_graph.specs.declared.Made.{Made}
use Rattle.mk_headline.specs.Plans.{clean_plan, is_meta_path, makes_file}
use Rattle.mk_modes.specs.Building.{Point}
use Rattle.mk_modes.specs.Modes.{Held}
use Rattle.mk_modes.specs.declared.report.End.TheVariants.{Done}
use Rattle.mk_modes.specs.declared.report.Report.{Report}
use Rattle.mk_plan.specs.Plans.{node_at, planned}
use Rattle.mk_reader.specs.OnMaps.{Listings, reading_on}
use Rattle.mk_run.specs.CleanRuns.{IsPlannedOn, bare, clean_files_of, clean_jobs_of}
use Rattle.mk_run.specs.TrueRuns.{IsTrueOrderRun, build_of}
use Rattle.mk_scopes.specs.declared.scopes.Env.{Env}
use Rattle.mk_sound.specs.Files.{HasBuilt, IsTrueStart}
use Rattle.mk_sound.specs.Sound.{HasItsTask}
use Rattle.mk_trace.specs.Runs.{Tasks}
use Rattle.mk_uptodate.specs.Audited.{HasExactHistory, HoldsOfFiles}
use Rattle.mk_world.specs.Deeds.{Store}
use Rattle.mk_world.specs.History.{files_of, state_of}
use Rattle.mk_world.specs.Lawful.{IsLawful}
use Rattle.mk_world.specs.Talks.{Meaning}
use Rattle.mk_world.specs.declared.history.Happening.{Happening}
use Rattle.mk_world.specs.declared.history.Happening.TheVariants.{Edit, Look, Stamp, Put, Gone, Ask}
use Rattle.mk_world.specs.declared.history.Happening.TheVariants.{Start, Step, End, Left}
use Rattle.mk_world.specs.declared.history.History.{History}
use Rattle.mk_audited.specs.Audits.{AreAuditable, IsCleanAudit, lines_on}

-- the words ask for an audit, and for no print, query or dry run
pub record AsksForAudit (order : Order) : Type 0 where
  pub audit : order.audit ≡ true
  pub prints : order.prints ≡ []
  pub query : order.flags.query ≡ false
  pub dry : order.flags.dry ≡ false

-- A run that audits these files, of which no breach is told: it ends well.
pub record IsCleanAuditRun (meaning : Meaning) (words : List (List ℕ)) (env : Env) (order : Order) (old new : History)
    : Type 0
  where
    pub first : Point
    pub last : Point
    pub err : Held
    pub report : Report
    pub run : IsTrueOrderRun meaning words env order first last err report
    pub began : first.history ≡ Some old
    pub ended : last.history ≡ Some new
    pub asks : AsksForAudit order
    pub done : report.end ≡ Done

-- Such a run has found nothing of which a breach is told.
abbrev pub RunsFindNothing : Type 0
RunsFindNothing =
    (meaning : Meaning) (words : List (List ℕ)) (env : Env) (order : Order) (old new : History)
    → IsCleanAuditRun meaning words env order old new
    → (makefiles : AreAuditable meaning env order (files_of old))
    → (its : IsCleanAudit meaning env order old) × (its.makefiles ≡ makefiles)

-- So where meta files tell what happened, with exact records, the files are sound, and each made
-- file has the bytes of the clean build.
abbrev pub RunsFindSoundFiles : Type 0
RunsFindSoundFiles =
    (meaning : Meaning) (words : List (List ℕ)) (env : Env) (order : Order) (old new : History)
    → IsCleanAuditRun meaning words env order old new
    → (start : IsTrueStart meaning old) → HasExactHistory meaning old start
    → (makefiles : AreAuditable meaning env order (files_of old))
    → HoldsOfFiles meaning env order old makefiles.work (lines_on makefiles.work (files_of old))

-- somebody else changed a file that is no meta file
abbrev pub IsEdit : Happening → Type 0
IsEdit (Edit path bytes time) = is_meta_path path ≡ false
IsEdit (Look path) = ⊥
IsEdit (Stamp path bytes time) = ⊥
IsEdit (Put path bytes time) = ⊥
IsEdit (Gone path time) = ⊥
IsEdit (Ask cmd steps) = ⊥
IsEdit (Start ticket owner cmd) = ⊥
IsEdit (Step ticket owner deed time) = ⊥
IsEdit (End ticket owner) = ⊥
IsEdit (Left ticket owner) = ⊥

-- files were edited, which may be sources, made files and makefiles, and nothing else happened
pub record AreEdited (old new : History) : Type 0 where
  pub base : new.base ≡ old.base
  pub edits : List Happening
  pub events : new.events ≡ old.events ++ edits
  pub are : AllByRecursion IsEdit edits

-- Behind edits meta files tell what happened, where they did so before.
abbrev pub EditsKeepTrueStarts : Type 0
EditsKeepTrueStarts =
    (meaning : Meaning) (old new : History) → IsTrueStart meaning old → AreEdited old new
    → IsLawful meaning new → IsTrueStart meaning new

-- What an audit of files cannot tell of them when they are edited behind it, and so is left to be
-- asked for a build of this work with these lines: the makefiles still give this work, also where
-- made files and meta files are away, and their commands of `!=` change no file; in the clean build
-- each node has these lines, no name of the newer sources is looked up, and `exists` is asked of
-- sources alone; and of the jobs that the edits reach, and of no others, that what they read and
-- change is declared. Edits reach a node whose job looked at an edited file, or at a made file of a
-- node that they reach. That the build goes by meta mode, and that meta files tell what happened, is
-- not left.
pub record AreLeftToAsk (meaning : Meaning) (env : Env) (order : Order) (files new : Store) (work : Work)
    (lines : Tasks) : Type 0
  where
    pub made : Made
    pub listings : Listings
    pub read : (reading_on meaning new listings env order).answer ≡ Ok made
    pub planned : planned new made order.flags.requested order.flags.query ≡ Ok work.plan
    pub work_is : work ≡ work_on work.plan made order.flags
    pub room : 0 < order.flags.jobs
    pub asks : AllByRecursion (ChangesNone meaning new listings) (reading_on meaning new listings env order).acts
    pub alike : IsPlannedOn meaning env order (bare work.plan new) work
    pub tasks_are : (one : CleanJob) → IsAmong one (clean_jobs_of meaning work (bare work.plan new))
        → HasItsTask work lines (clean_jobs_of meaning work (bare work.plan new)) one
    pub edited : Edited
    pub reached : Reached
    pub edits_are : AreEditedAt (clean_plan work lines) edited files new
    pub reach : ReachNoOther (clean_plan work lines) (clean_build meaning (clean_plan work lines) files) edited reached
    pub declared : ReachedAreDeclared (clean_plan work lines) reached
        (clean_build meaning (clean_plan work lines) files) (clean_build meaning (clean_plan work lines) new)

-- A run that builds all from these files.
pub record IsWholeBuildRun (meaning : Meaning) (words : List (List ℕ)) (env : Env) (order : Order) (old new : History)
    : Type 0
  where
    pub first : Point
    pub last : Point
    pub err : Held
    pub report : Report
    pub run : IsTrueOrderRun meaning words env order first last err report
    pub began : first.history ≡ Some old
    pub ended : last.history ≡ Some new
    pub built : HasBuilt (build_of run.run)
    pub done : report.end ≡ Done

-- An audit answers 0, then files are edited, and then a build answers 0: each made file that the
-- requested targets need has the bytes that the clean build gives it from the edited files.
abbrev pub AuditedBuildsLeaveClean : Type 0
AuditedBuildsLeaveClean =
    (meaning : Meaning) (words build_words : List (List ℕ)) (env build_env : Env) (order build_order : Order)
    (old audited edited new : History)
    → (start : IsTrueStart meaning old) → HasExactHistory meaning old start
    → (makefiles : AreAuditable meaning env order (files_of old))
    → IsCleanAuditRun meaning words env order old audited
    → AreEdited audited edited → IsLawful meaning edited → (state_of edited).children ≡ []
    → AreLeftToAsk meaning build_env build_order (files_of old) (files_of edited) makefiles.work
    (lines_on makefiles.work (files_of old))
    → IsWholeBuildRun meaning build_words build_env build_order edited new
    → (node : ℕ) → makes_file (node_at makefiles.work.plan node) ≡ true
    → files_of new (node_at makefiles.work.plan node).name
    ≡ clean_files_of meaning makefiles.work (bare makefiles.work.plan (files_of edited))
    (node_at makefiles.work.plan node).name
