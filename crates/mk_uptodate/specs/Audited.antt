-- Whether what is asked before a run holds of the files that stand, told from the makefiles, the
-- meta files, what these record and the times of files: nothing here speaks of what the commands of
-- jobs do.
use Rattle.std.specs.Prelude.{◌≡◌, ℕ, ◌<◌, List, [], Some, Ok, true, false}
use Rattle.std.specs.List.{AllByRecursion}
use Rattle.mk_answers.specs.OnFiles.{ChangesNone}
use Rattle.mk_clean.specs.Clean.{IsAmong}
use Rattle.mk_clean.specs.Repeated.{IsAsRecorded}
use Rattle.mk_cli.specs.declared.order.Order.{Order}
use Rattle.mk_decision.specs.Decisions.{Work, source_names}
use Rattle.mk_decision.specs.Makers.{work_on}
use Rattle.mk_declared.specs.Recorded.{AreDeclaredBy, IsUnaltered, Recorded}
use Rattle.mk_filemon.specs.Outer.{ops_of}
use Rattle.mk_filemon.specs.declared.record.Rec.{Rec}
use Rattle.mk_graph.specs.Nodes.{names_of}
use Rattle.mk_graph.specs.declared.Made.{Made}
use Rattle.mk_headline.specs.Plans.{clean_plan, has_job, makes_file}
use Rattle.mk_headline.specs.Premises.{GoesByMetaMode}
use Rattle.mk_looks.specs.Looks.{looks_for_newer}
use Rattle.mk_meta.specs.Lawful.{IsLawful}
use Rattle.mk_meta.specs.Texts.{meta_text}
use Rattle.mk_meta.specs.TrueHistory.{HasExactRecords, meta_path}
use Rattle.mk_meta.specs.declared.meta.Meta.{Meta}
use Rattle.mk_plan.specs.Newer.{task_names}
use Rattle.mk_plan.specs.Plans.{node_at, planned}
use Rattle.mk_plan.specs.Tasks.{setting_of}
use Rattle.mk_pool.specs.Pool.{AreDistinct}
use Rattle.mk_reader.specs.OnMaps.{Listings, reading_on}
use Rattle.mk_run.specs.CleanRuns.{IsPlannedOn, bare, by_files, clean_files_of, task_on}
use Rattle.mk_scopes.specs.declared.scopes.Env.{Env}
use Rattle.mk_sound.specs.Files.{AreSound, IsTrueStart}
use Rattle.mk_trace.specs.Runs.{Tasks}
use Rattle.mk_uptodate.specs.UpToDate.{IsUpToDate, task_in, time_in}
use Rattle.mk_values.specs.Facts.{AnsweredBy}
use Rattle.mk_values.specs.declared.facts.Asked.{Asked}
use Rattle.mk_world.specs.Deeds.{Store}
use Rattle.mk_world.specs.History.{files_of}
use Rattle.mk_world.specs.Talks.{Meaning}
use Rattle.mk_world.specs.declared.command.TaskLine.{TaskLine}
use Rattle.mk_world.specs.declared.history.History.{History}

-- The records of each meta file that stands are exactly those of its job's steps. It is the one
-- thing that is asked of the recorder beyond what a build asks.
abbrev pub HasExactHistory : (meaning : Meaning) (old : History) → IsTrueStart meaning old → Type 0
HasExactHistory meaning old start =
    (meta : Meta) (lawful : IsLawful meta) (stands : files_of old (meta_path meta.target) ≡ Some (meta_text meta))
    → HasExactRecords (start.truth meta lawful stands)

-- A node that makes no file, and has commands, stands as it is recorded: its meta file stands, is
-- lawful, is of this node and has these records; each of its lines is compared; and its exported
-- variables, its directory and its commands are those recorded, what its job found outside is older
-- than the job, and what it missed is missing.
pub record StandsAsRecorded (old : History) (work : Work) (lines : Tasks) (node : ℕ) (records : List Rec) : Type 0
  where
    pub meta : Meta
    pub lawful : IsLawful meta
    pub stands : files_of old (meta_path (node_at work.plan node).name) ≡ Some (meta_text meta)
    pub target : meta.target ≡ (node_at work.plan node).name
    pub recorded : meta.records ≡ Some records
    pub compared : AllByRecursion (λ (line : TaskLine). line.compared ≡ true) (lines node)
    pub as_recorded : IsAsRecorded meta records (task_in work lines node) (time_in old)

-- A node that makes a file is up to date, by a meta file with these records.
pub record IsUpToDateBy (old : History) (work : Work) (lines : Tasks) (node : ℕ) (records : List Rec) : Type 0 where
  pub fresh : IsUpToDate old work lines node
  pub records_are : fresh.records ≡ records

-- On the files that stand a node has these lines. No name of the newer sources is looked up in its
-- commands, and `exists` is asked of paths that no recorded job changed and no build leaves.
pub record HasAuditedTask (work : Work) (lines : Tasks) (files : Store) (ops : Recorded) (node : ℕ)
    : Type 0 where
  pub asked : List Asked
  pub task : task_on work node files ≡ Ok (task_in work lines node, asked)
  pub no_newer : looks_for_newer (task_names (setting_of work.variables work.lists (by_files files))
      work.suffixes work.plan node (source_names work node) work.mode work.flags []) ≡ false
  pub answered : AnsweredBy (by_files files) asked
  pub unaltered : (question : Asked) → IsAmong question asked
      → IsUnaltered (clean_plan work lines) ops question.path

-- what is recorded of the jobs of nodes
abbrev pub ops_by : (ℕ → List Rec) → Recorded
ops_by records node = ops_of (records node)

-- What is asked of the words, the environment, and the files and meta files that stand before a
-- run.
pub record AreAudited (meaning : Meaning) (env : Env) (order : Order) (old : History) : Type 0 where
  -- The makefiles on these files are read, and say this, where these are the names in the
  -- directories that they list; no two nodes of the graph have one name, which holds of all graphs
  -- that are read; and this is the work that the words ask for.
  pub made : Made
  pub listings : Listings
  pub read : (reading_on meaning (files_of old) listings env order).answer ≡ Ok made
  pub names_differ : AreDistinct (names_of made.graph)
  pub work : Work
  pub planned : planned (files_of old) made order.flags.requested order.flags.query ≡ Ok work.plan
  pub work_is : work ≡ work_on work.plan made order.flags
  pub lines : Tasks
  -- what is recorded of the job of each node
  pub records : ℕ → List Rec
  -- At least one job may run at once.
  pub room : 0 < order.flags.jobs
  -- The commands that the makefiles ask with `!=` change no file.
  pub asks : AllByRecursion (ChangesNone meaning (files_of old) listings)
      (reading_on meaning (files_of old) listings env order).acts
  -- The build goes by meta mode.
  pub mode : GoesByMetaMode work lines
  -- The makefiles give this work also where made files and meta files are away.
  pub alike : IsPlannedOn meaning env order (bare work.plan (files_of old)) work
  -- Each node with commands has its lines on the files that stand.
  pub tasks_are : (node : ℕ) → has_job (node_at work.plan node) ≡ true
      → HasAuditedTask work lines (files_of old) (ops_by records) node
  -- Each one that makes a file is up to date, and each other one stands as it is recorded.
  pub fresh : (node : ℕ) → makes_file (node_at work.plan node) ≡ true
      → IsUpToDateBy old work lines node (records node)
  pub phony : (node : ℕ) → has_job (node_at work.plan node) ≡ true
      → makes_file (node_at work.plan node) ≡ false
      → StandsAsRecorded old work lines node (records node)
  -- What is recorded is declared.
  pub declared : AreDeclaredBy (clean_plan work lines) (ops_by records)

-- Then what is asked of the clean build holds, with this work and these lines, and each made file
-- has the bytes of the clean build already.
pub record HoldsOfFiles (meaning : Meaning) (env : Env) (order : Order) (old : History) (work : Work) (lines : Tasks)
    : Type 0 where
  pub sound : AreSound meaning env order (files_of old)
  pub work_is : sound.work ≡ work
  pub lines_are : sound.lines ≡ lines
  pub same : (node : ℕ) → makes_file (node_at work.plan node) ≡ true
      → files_of old (node_at work.plan node).name
      ≡ clean_files_of meaning work (bare work.plan (files_of old)) (node_at work.plan node).name

abbrev pub AuditedFilesAreSound : Type 0
AuditedFilesAreSound =
    (meaning : Meaning) (env : Env) (order : Order) (old : History) (start : IsTrueStart meaning old)
    → HasExactHistory meaning old start → (its : AreAudited meaning env order old)
    → HoldsOfFiles meaning env order old its.work its.lines
