-- Whether what is asked before a run holds of the files that stand, by the meta files that stand.
-- Where each made node is up to date, the files that stand tell what the jobs of the clean build
-- do: so what these read and change, and what their commands ask, may be looked up in what the jobs
-- do on the files that stand.
use Rattle.std.specs.Prelude.{◌≡◌, ℕ, ◌<◌, List, [], map, Some, None, Ok, true, false}
use Rattle.std.specs.List.{AllByRecursion}
use Rattle.mk_answers.specs.OnFiles.{ChangesNone}
use Rattle.mk_clean.specs.Clean.{IsAmong}
use Rattle.mk_clean.specs.Declared.{IsDeclared, IsSource}
use Rattle.mk_cli.specs.declared.order.Order.{Order}
use Rattle.mk_decision.specs.Decisions.{Work, mode_at, source_names}
use Rattle.mk_decision.specs.Makers.{work_on}
use Rattle.mk_declared.specs.Present.{Stands, present_jobs}
use Rattle.mk_filemon.specs.declared.record.Rec.{Rec}
use Rattle.mk_graph.specs.Nodes.{names_of}
use Rattle.mk_graph.specs.declared.Made.{Made}
use Rattle.mk_headline.specs.Plans.{clean_plan, has_job, makes_file}
use Rattle.mk_headline.specs.Premises.{GoesByMetaMode}
use Rattle.mk_looks.specs.Looks.{looks_for_newer}
use Rattle.mk_meta.specs.Lawful.{IsLawful}
use Rattle.mk_meta.specs.Texts.{meta_text}
use Rattle.mk_meta.specs.TrueHistory.{meta_path}
use Rattle.mk_meta.specs.declared.meta.Meta.{Meta}
use Rattle.mk_oodate.specs.Lists.{left_paths, missed_paths, read_paths}
use Rattle.mk_oodate.specs.Stale.{stale}
use Rattle.mk_oodate.specs.declared.reason.Age.{Age}
use Rattle.mk_oodate.specs.declared.reason.NodeMode.{NodeMode}
use Rattle.mk_oodate.specs.declared.reason.Times.{Times}
use Rattle.mk_plan.specs.Newer.{task_names}
use Rattle.mk_plan.specs.Plans.{node_at, planned}
use Rattle.mk_plan.specs.Tasks.{setting_of, task_with}
use Rattle.mk_pool.specs.Pool.{AreDistinct}
use Rattle.mk_reader.specs.OnMaps.{Listings, reading_on}
use Rattle.mk_run.specs.CleanRuns.{IsPlannedOn, bare, by_files, clean_files_of, task_on}
use Rattle.mk_scopes.specs.declared.scopes.Env.{Env}
use Rattle.mk_sound.specs.Files.{AreSound, IsTrueStart}
use Rattle.mk_trace.specs.Runs.{Tasks}
use Rattle.mk_values.specs.Facts.{AnsweredBy}
use Rattle.mk_values.specs.declared.facts.Asked.{Asked}
use Rattle.mk_world.specs.Calls.{when_of}
use Rattle.mk_world.specs.Deeds.{Store}
use Rattle.mk_world.specs.History.{files_of, state_of}
use Rattle.mk_world.specs.Talks.{Meaning}
use Rattle.mk_world.specs.declared.command.Task.{Task}
use Rattle.mk_world.specs.declared.history.History.{History}
use Rattle.mk_world.specs.declared.time.When.{When}

-- when what stands at a path was changed last
abbrev pub time_in : History → List ℕ → When
time_in old path = when_of ((state_of old).files path)

-- The times by which a node of this path is tested, where its meta file has these records, as the
-- files stand.
abbrev pub times_in : History → List ℕ → List Age → List Rec → Times
times_in old name ages records = record {
  target = time_in old name;
  meta = time_in old (meta_path name);
  sources = ages;
  reads = map (time_in old) (read_paths [] records);
  misses = map (time_in old) (missed_paths [] records);
  left = map (time_in old) (left_paths [] records);
}

-- the task of a node that has these lines
abbrev pub task_in : Work → Tasks → ℕ → Task
task_in work lines node =
    task_with work.variables work.mode.exports (node_at work.plan node).name (lines node)

-- what counts for a node, but that it may be marked to be made whatever stands there
abbrev pub unforced : NodeMode → NodeMode
unforced mode = record mode { always = false }

-- A node is up to date: its meta file stands, is lawful and has records, and by the times of the
-- files that stand the test gives no reason to make it again with these lines, whatever the ages of
-- its sources, but that it may be marked to be made whatever stands there.
pub record IsUpToDate (old : History) (work : Work) (lines : Tasks) (node : ℕ) : Type 0 where
  pub meta : Meta
  pub lawful : IsLawful meta
  pub stands : files_of old (meta_path (node_at work.plan node).name) ≡ Some (meta_text meta)
  pub records : List Rec
  pub recorded : meta.records ≡ Some records
  pub ages : List Age
  pub no_reason : stale (Some meta) (task_in work lines node) (unforced (mode_at work node))
      (times_in old (node_at work.plan node).name ages records) ≡ None

-- Where meta files tell what happened, such a node stands as its job would leave it.
abbrev pub UpToDateNodesStand : Type 0
UpToDateNodesStand =
    (meaning : Meaning) (old : History) (work : Work) (lines : Tasks) (node : ℕ)
    → IsTrueStart meaning old → GoesByMetaMode work lines
    → makes_file (node_at work.plan node) ≡ true
    → IsUpToDate old work lines node → Stands meaning (clean_plan work lines) (files_of old) node

-- On the files that stand a node has these lines. No name of the newer sources is looked up in its
-- commands, and `exists` is asked of sources alone, which answer by what stands.
pub record HasPresentTask (meaning : Meaning) (work : Work) (lines : Tasks) (files : Store) (node : ℕ) : Type 0
  where
    pub asked : List Asked
    pub task : task_on work node files ≡ Ok (task_in work lines node, asked)
    pub no_newer : looks_for_newer (task_names (setting_of work.variables work.lists (by_files files))
        work.suffixes work.plan node (source_names work node) work.mode work.flags []) ≡ false
    pub answered : AnsweredBy (by_files files) asked
    pub sources : (question : Asked) → IsAmong question asked
        → IsSource (clean_plan work lines) (present_jobs meaning (clean_plan work lines) files) question.path

-- What is asked of the words, the environment, and the files and meta files that stand before a
-- run, where all is up to date. Nothing here speaks of the jobs of the clean build.
pub record AreUpToDate (meaning : Meaning) (env : Env) (order : Order) (old : History)
    : Type 0 where
  -- The makefiles on these files are read, and say this, where these are the names in the
  -- directories that they list; no two nodes of the graph have one name, which holds of all graphs
  -- that are read; and this is the work that the words ask for.
  pub made : Made
  pub listings : Listings
  pub read : (reading_on meaning (files_of old) listings env order).answer ≡ Ok made
  pub names_differ : AreDistinct (names_of made.graph)
  pub work : Work
  pub planned : planned (files_of old) made order.flags.requested order.flags.query ≡ Ok work.plan
  pub work_is : work ≡ work_on work.plan made order.flags
  pub lines : Tasks
  -- At least one job may run at once.
  pub room : 0 < order.flags.jobs
  -- The commands that the makefiles ask with `!=` change no file.
  pub asks : AllByRecursion (ChangesNone meaning (files_of old) listings)
      (reading_on meaning (files_of old) listings env order).acts
  -- The build goes by meta mode.
  pub mode : GoesByMetaMode work lines
  -- The makefiles give this work also where made files and meta files are away.
  pub alike : IsPlannedOn meaning env order (bare work.plan (files_of old)) work
  -- Each node with commands has its lines on the files that stand, and each made one is up to date.
  pub tasks_are : (node : ℕ) → has_job (node_at work.plan node) ≡ true
      → HasPresentTask meaning work lines (files_of old) node
  pub fresh : (node : ℕ) → makes_file (node_at work.plan node) ≡ true
      → IsUpToDate old work lines node
  -- What the jobs read and change on the files that stand is declared.
  pub declared : IsDeclared (clean_plan work lines)
      (present_jobs meaning (clean_plan work lines) (files_of old))

-- Then what is asked of the clean build holds, with the same work and the same lines, and each made
-- file has the bytes of the clean build already.
pub record AreClean (meaning : Meaning) (env : Env) (order : Order) (old : History)
    (its : AreUpToDate meaning env order old) : Type 0
  where
    pub sound : AreSound meaning env order (files_of old)
    pub work_is : sound.work ≡ its.work
    pub lines_are : sound.lines ≡ its.lines
    pub same : (node : ℕ) → makes_file (node_at its.work.plan node) ≡ true
        → files_of old (node_at its.work.plan node).name
        ≡ clean_files_of meaning its.work (bare its.work.plan (files_of old)) (node_at its.work.plan node).name

abbrev pub UpToDateFilesAreSound : Type 0
UpToDateFilesAreSound =
    (meaning : Meaning) (env : Env) (order : Order) (old : History) → IsTrueStart meaning old
    → (its : AreUpToDate meaning env order old) → AreClean meaning env order old its
