-- Makefiles that ask for nothing that builds leave or change: without `!=`, `exists` in commands,
-- `.OODATE` and its kin, and without chains of suffix rules over made files. For these the premises
-- on plans follow. What is said here is over what the makefiles ask for while they are read, over
-- the names that their plan comes to, and over the commands of its nodes, all by the files that
-- stand; `other` is these files where made files and meta files are away.
use Rattle.std.specs.Prelude.{◌≡◌, ℕ, ◌<◌, [], Ok, true, false}
use Rattle.std.specs.List.{AllByRecursion}
use Rattle.mk_blocks.specs.Acts.{Act, wrote, looked, dated, listed, ran}
use Rattle.mk_cli.specs.declared.order.Order.{Order}
use Rattle.mk_clean.specs.Declared.{IsDeclared}
use Rattle.mk_decision.specs.Decisions.{Work, source_names}
use Rattle.mk_decision.specs.Makers.{work_on}
use Rattle.mk_graph.specs.declared.Made.{Made}
use Rattle.mk_headline.specs.Plans.{clean_plan, has_job}
use Rattle.mk_headline.specs.Premises.{GoesByMetaMode}
use Rattle.mk_looks.specs.Looks.{looks_for_newer}
use Rattle.mk_plain.specs.Names.{AreMadeAlike}
use Rattle.mk_plan.specs.Newer.{task_names}
use Rattle.mk_plan.specs.Plans.{node_at, planned, wanted}
use Rattle.mk_plan.specs.Tasks.{setting_of, task_with}
use Rattle.mk_reader.specs.OnMaps.{Listings, reading_on}
use Rattle.mk_run.specs.CleanRuns.{bare, by_files, clean_jobs_of, task_on}
use Rattle.mk_scopes.specs.declared.scopes.Env.{Env}
use Rattle.mk_sound.specs.Files.{AreSound}
use Rattle.mk_trace.specs.Runs.{Tasks}
use Rattle.mk_world.specs.Deeds.{Store}
use Rattle.mk_world.specs.Listings.{Lists}
use Rattle.mk_world.specs.Talks.{Meaning}

-- What makefiles ask for while they are read has one answer: files and times of paths at which the
-- same stands, and directories with the same names. No command is run.
abbrev pub IsAskedPlainly : Store → Store → Listings → Act → Type 0
IsAskedPlainly files other listings (wrote message) = Unit {0}
IsAskedPlainly files other listings (looked path) = other path ≡ files path
IsAskedPlainly files other listings (dated path) = other path ≡ files path
IsAskedPlainly files other listings (listed dir) = Lists files dir (listings dir)
    × Lists other dir (listings dir)
IsAskedPlainly files other listings (ran cmd) = ⊥

-- The commands of a node are these lines. They ask `exists` of nothing, and no name of the newer
-- sources is looked up in them.
pub record HasPlainTask (work : Work) (lines : Tasks) (files : Store) (node : ℕ) : Type 0 where
  pub task : task_on work node files
      ≡ Ok (task_with work.variables work.mode.exports (node_at work.plan node).name (lines node), [])
  pub no_newer : looks_for_newer (task_names (setting_of work.variables work.lists (by_files files)) work.suffixes
      work.plan node (source_names work node) work.mode work.flags []) ≡ false

-- The makefiles on these files say this, where these are the names in the directories that they
-- list; this is the work that the words ask for, with these lines; and they ask for nothing that
-- builds leave or change.
pub record ArePlain (meaning : Meaning) (env : Env) (order : Order) (files : Store) (made : Made)
    (listings : Listings) (work : Work) (lines : Tasks) : Type 0
  where
    pub read : (reading_on meaning files listings env order).answer ≡ Ok made
    pub planned : planned files made order.flags.requested order.flags.query ≡ Ok work.plan
    pub work_is : work ≡ work_on work.plan made order.flags
    -- no `!=`, and no makefile is made
    pub asks : AllByRecursion (IsAskedPlainly files (bare work.plan files) listings)
        (reading_on meaning files listings env order).acts
    -- no chains over made files
    pub names : AreMadeAlike files (bare work.plan files) made (wanted order.flags.requested made.main)
    -- no `exists` in commands, and no `.OODATE`
    pub tasks : (node : ℕ) → has_job (node_at work.plan node) ≡ true
        → HasPlainTask work lines files node

-- Such files are sound, where at least one job may run, the build goes by meta mode, and what jobs
-- read and change is declared: P3 and P5 follow.
abbrev pub PlainFilesAreSound : Type 0
PlainFilesAreSound =
    (meaning : Meaning) (env : Env) (order : Order) (files : Store) (made : Made) (listings : Listings) (work : Work)
    (lines : Tasks) → ArePlain meaning env order files made listings work lines
    → 0 < order.flags.jobs
    → GoesByMetaMode work lines
    → IsDeclared (clean_plan work lines) (clean_jobs_of meaning work (bare work.plan files))
    → (sound : AreSound meaning env order files) × (sound.work ≡ work) × (sound.lines ≡ lines)
