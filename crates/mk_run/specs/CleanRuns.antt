-- The clean build beside a run: what a make does that has nothing of earlier builds. It reads the
-- makefiles and plans anew, on the files at the beginning without made files and meta files, and
-- then runs the job of each node, in the order of its plan, on what those before it left.
use Rattle.std.specs.Prelude.{◌≡◌, ℕ, ◌||◌, ◌&&◌, true, List, [], Option, Some, None, Result, Ok}
use Rattle.std.specs.Prelude.{Err}
use Rattle.std.specs.Prelude.{is_some, if◌then◌else◌}
use Rattle.std.specs.List.{AllByRecursion, list_any}
use Rattle.mk_blocks.specs.Acts.{Act, wrote, looked, dated, listed, ran}
use Rattle.mk_clean.specs.Clean.{AllWell, CleanJob, IsAmong, after_by, doings_by, files_by, jobs_by}
use Rattle.mk_clean.specs.Declared.{IsDeclared}
use Rattle.mk_clean.specs.Same.{DoesCleanSteps}
use Rattle.mk_clean.specs.Turns as turn
use Rattle.mk_cli.specs.declared.order.Order.{Order}
use Rattle.mk_decision.specs.Decisions.{Work, source_names}
use Rattle.mk_decision.specs.Makers.{work_on}
use Rattle.mk_values.specs.Facts.{Answers}
use Rattle.mk_values.specs.declared.facts.Asked.{Asked}
use Rattle.mk_graph.specs.declared.Made.{Made}
use Rattle.mk_headline.specs.Laws.{IsBuildOfTurns}
use Rattle.mk_headline.specs.Plans.{clean_plan, is_called, is_meta_path, jobs_from, makes_file}
use Rattle.mk_headline.specs.Premises.{GoesByMetaMode}
use Rattle.mk_meta.specs.Jobs.{working}
use Rattle.mk_meta.specs.TrueHistory.{IsTrueHistory}
use Rattle.mk_plan.specs.Plans.{node_at, planned}
use Rattle.mk_plan.specs.Tasks.{setting_of, task_of, task_with}
use Rattle.mk_plan.specs.declared.fault.TaskFault.{TaskFault}
use Rattle.mk_plan.specs.declared.plan.PlanNode.{PlanNode}
use Rattle.mk_reader.specs.OnMaps.{Listings, reading_on}
use Rattle.mk_scopes.specs.declared.scopes.Env.{Env}
use Rattle.mk_trace.specs.Builds.{command_of}
use Rattle.mk_trace.specs.Items.{Item}
use Rattle.mk_trace.specs.Runs.{Tasks}
use Rattle.mk_trace.specs.TrueBuilds.{IsApart, LeavesFiles, longer}
use Rattle.mk_world.specs.Deeds.{Store}
use Rattle.mk_world.specs.History.{files_of, state_of}
use Rattle.mk_world.specs.Lawful.{IsLawful}
use Rattle.mk_world.specs.Listings.{Lists}
use Rattle.mk_world.specs.Talks.{Doing, Meaning, after_doing}
use Rattle.mk_world.specs.declared.command.Task.{Task}
use Rattle.mk_world.specs.declared.command.TaskLine.{TaskLine}
use Rattle.mk_world.specs.declared.history.Happening.{Happening}
use Rattle.mk_world.specs.declared.history.History.{History}

-- the files without what a build of this plan leaves: made files and meta files
abbrev pub bare : List PlanNode → Store → Store
bare nodes files = λ path.
    if list_any (λ node. makes_file node && is_called path node) nodes || is_meta_path path
    then None else files path

-- what a reading asks with `!=` changes none of these files, and each directory that it lists has
-- these names, as the files have it
abbrev pub LeavesThem : Meaning → Store → Listings → Act → Type 0
LeavesThem meaning files listings (ran cmd) =
    (path : List ℕ) → after_doing meaning cmd files path ≡ files path
LeavesThem meaning files listings (listed dir) = Lists files dir (listings dir)
LeavesThem meaning files listings (wrote message) = Unit {0}
LeavesThem meaning files listings (looked path) = Unit {0}
LeavesThem meaning files listings (dated path) = Unit {0}

-- The makefiles are read and a plan is made of these files, with the same words and in the same
-- environment as in the run; this is what is built.
pub record IsPlannedOn (meaning : Meaning) (env : Env) (order : Order) (files : Store) (work : Work)
    : Type 0
  where
    pub made : Made
    pub nodes : List PlanNode
    pub listings : Listings
    pub read : (reading_on meaning files listings env order).answer ≡ Ok made
    pub leaves : AllByRecursion (LeavesThem meaning files listings)
        (reading_on meaning files listings env order).acts
    pub planned : planned files made order.flags.requested order.flags.query ≡ Ok nodes
    pub work_is : work ≡ work_on nodes made order.flags

-- what stands answers `exists`
abbrev pub by_files : Store → Answers
by_files files place path = is_some (files path)

-- The task of a node on these files. Its own file is missing, so all its sources are newer.
abbrev pub task_on : Work → ℕ → Store → Result (Task × List Asked) TaskFault
task_on work node files =
    task_of (setting_of work.variables work.lists (by_files files)) work.suffixes work.plan node
    (source_names work node) work.mode work.flags []

-- the lines that are run of a task: those that are not empty
abbrev pub lines_of_task : Result (Task × List Asked) TaskFault → List TaskLine
lines_of_task (Ok task) = working task.0.lines
lines_of_task (Err fault) = []

abbrev pub lines_on : Work → ℕ → Store → List TaskLine
lines_on work node files = lines_of_task (task_on work node files)

abbrev pub job_on : Meaning → Work → ℕ → Store → List Doing
job_on meaning work = doings_by meaning (command_of work) (lines_on work)

abbrev pub left_by : Meaning → Work → ℕ → Store → Store
left_by meaning work = after_by meaning (command_of work) (lines_on work)

-- the jobs of these nodes, each on what those before it left, and the files behind them
abbrev pub jobs_on : Meaning → Work → List ℕ → Store → List CleanJob
jobs_on meaning work = jobs_by meaning (command_of work) (lines_on work)

abbrev pub files_behind : Meaning → Work → List ℕ → Store → Store
files_behind meaning work = files_by meaning (command_of work) (lines_on work)

-- The clean build of a plan on files that have nothing of earlier builds: the jobs of its nodes
-- with commands, in plan order, each to its end, also behind one that failed.
abbrev pub clean_jobs_of : Meaning → Work → Store → List CleanJob
clean_jobs_of meaning work files = jobs_on meaning work (jobs_from 0 work.plan) files

abbrev pub clean_files_of : Meaning → Work → Store → Store
clean_files_of meaning work files = files_behind meaning work (jobs_from 0 work.plan) files

-- At its turn in the clean build a node has the task that it has in the run.
abbrev pub HasSameTask : Work → Work → Tasks → CleanJob → Type 0
HasSameTask clean work tasks one = (asked : List Asked)
    × (task_on clean one.node one.before
    ≡ Ok (task_with work.variables work.mode.exports (node_at work.plan one.node).name (tasks one.node), asked))

-- Plans are alike: the clean build has the plan of the run, and for each node its task.
pub record ArePlansAlike (meaning : Meaning) (env : Env) (order : Order) (files : Store) (work : Work)
    (tasks : Tasks) (clean : Work) : Type 0
  where
    pub planned : IsPlannedOn meaning env order (bare work.plan files) clean
    pub plan : clean.plan ≡ work.plan
    pub same_tasks : (one : CleanJob)
        → IsAmong one (clean_jobs_of meaning clean (bare work.plan files))
        → HasSameTask clean work tasks one

-- Before a run of this work: no child runs, the history is one that may have come about, and each
-- meta file that stands tells what happened. The commands that the run asks with `!=` change no
-- file. The build goes by meta mode, a clean build of what the words ask for has the same plan and
-- tasks, and what its jobs read and change is declared.
pub record IsReadyRun (meaning : Meaning) (env : Env) (order : Order) (planned_at : Option History) (work : Work)
    (tasks : Tasks) (old : History) (clean : Work) : Type 0
  where
    pub lawful : IsLawful meaning old
    pub idle : (state_of old).children ≡ []
    pub truth : IsTrueHistory meaning.next old
    pub asks : (asked : List Happening) → planned_at ≡ Some (longer old asked)
        → AllByRecursion LeavesFiles asked
    pub mode : GoesByMetaMode work tasks
    pub alike : ArePlansAlike meaning env order (files_of old) work tasks clean
    pub declared : IsDeclared (clean_plan work tasks)
        (clean_jobs_of meaning clean (bare work.plan (files_of old)))

-- A run leaves what the clean build leaves. In this each line of each job ran and went well. Each
-- made file has the bytes that it gives it. Each step of a command of the run is a step of the same
-- node's job in it, at every moment and in whatever order they are done: of each job none or the
-- first ones, and where its node is settled none or all. Its jobs have kept apart, and each meta
-- file that stands behind the run tells what happened.
pub record LeavesCleanFiles (meaning : Meaning) (work : Work) (tasks : Tasks) (items : List Item)
    (old new : History) (clean : Work) (files : Store) : Type 0
  where
    pub well : (one : CleanJob) → IsAmong one (clean_jobs_of meaning clean files)
        → AllWell (lines_on clean one.node one.before) one.doings
    pub same : (one : CleanJob) → IsAmong one (clean_jobs_of meaning clean files)
        → makes_file (node_at clean.plan one.node) ≡ true
        → files_of new (node_at clean.plan one.node).name
        ≡ clean_files_of meaning clean files (node_at clean.plan one.node).name
    pub built : IsBuildOfTurns meaning work tasks items old new
    pub steps_are : DoesCleanSteps (clean_plan work tasks) (clean_jobs_of meaning clean files) built.turns
        (turn.after_turns (clean_plan work tasks) (turn.first_build (files_of old)) built.turns)
    pub apart : IsApart work tasks items
    pub truth : IsTrueHistory meaning.next new
