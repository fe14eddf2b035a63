-- What follows where an audit finds nothing.
use Rattle.std.specs.Prelude.{◌≡◌, ℕ, ◌<◌, not, List, [], Some, Result, Ok, Err}
use Rattle.std.specs.List.{AllByRecursion, slice_get}
use Rattle.std.specs.Option.{option_map_or}
use Rattle.mk_answers.specs.OnFiles.{ChangesNone}
use Rattle.mk_audit.specs.Modes.{mode_is_full}
use Rattle.mk_audit.specs.Turns as audit
use Rattle.mk_breaches.specs.Breaches.{breaches}
use Rattle.mk_breaches.specs.declared.node.NodeFacts.{NodeFacts}
use Rattle.mk_breaches.specs.declared.node.PlanFacts.{PlanFacts}
use Rattle.mk_cli.specs.declared.order.Order.{Order}
use Rattle.mk_decision.specs.Decisions.{Work}
use Rattle.mk_decision.specs.Makers.{work_on}
use Rattle.mk_explain.specs.Turns.{SawFiles}
use Rattle.mk_filemon.specs.declared.record.Rec.{Rec}
use Rattle.mk_graph.specs.Nodes.{names_of}
use Rattle.mk_graph.specs.declared.Made.{Made}
use Rattle.mk_plan.specs.Plans.{planned}
use Rattle.mk_plan.specs.declared.fault.TaskFault.{TaskFault}
use Rattle.mk_pool.specs.Pool.{AreDistinct}
use Rattle.mk_reader.specs.OnMaps.{Listings, reading_on}
use Rattle.mk_run.specs.CleanRuns.{IsPlannedOn, bare, task_on}
use Rattle.mk_scopes.specs.declared.scopes.Env.{Env}
use Rattle.mk_sound.specs.Files.{IsTrueStart}
use Rattle.mk_trace.specs.Runs.{Tasks}
use Rattle.mk_uptodate.specs.Audited.{AreAudited, HasExactHistory, HoldsOfFiles}
use Rattle.mk_values.specs.declared.facts.Asked.{Asked}
use Rattle.mk_world.specs.Deeds.{Store}
use Rattle.mk_world.specs.History.{files_of, state_of}
use Rattle.mk_world.specs.Talks.{Meaning}
use Rattle.mk_world.specs.declared.command.Task.{Task}
use Rattle.mk_world.specs.declared.command.TaskLine.{TaskLine}
use Rattle.mk_world.specs.declared.history.History.{History}

-- the lines of a task, and none of a fault
abbrev pub lines_by : Result (Task × List Asked) TaskFault → List TaskLine
lines_by (Ok task) = task.0.lines
lines_by (Err fault) = []

-- the lines of each node on these files
abbrev pub lines_on : Work → Store → Tasks
lines_on work files node = lines_by (task_on work node files)

-- what is recorded of the job of each node by what is found
abbrev pub records_in : List NodeFacts → ℕ → List Rec
records_in nodes node = option_map_or (λ (one : NodeFacts). one.records) (slice_get nodes node) []

-- What is asked of the makefiles and the words on the files that stand, of which an audit tells
-- nothing.
pub record AreAuditable (meaning : Meaning) (env : Env) (order : Order) (files : Store) : Type 0
  where
    -- The makefiles on these files are read, and say this, where these are the names in the
    -- directories that they list; no two nodes of the graph have one name, which holds of all
    -- graphs that are read; and this is the work that the words ask for.
    pub made : Made
    pub listings : Listings
    pub read : (reading_on meaning files listings env order).answer ≡ Ok made
    pub names_differ : AreDistinct (names_of made.graph)
    pub work : Work
    pub planned : planned files made order.flags.requested order.flags.query ≡ Ok work.plan
    pub work_is : work ≡ work_on work.plan made order.flags
    -- At least one job may run at once.
    pub room : 0 < order.flags.jobs
    -- The commands that the makefiles ask with `!=` change no file.
    pub asks : AllByRecursion (ChangesNone meaning files listings) (reading_on meaning files listings env order).acts
    -- The makefiles give this work also where made files and meta files are away.
    pub alike : IsPlannedOn meaning env order (bare work.plan files) work

-- An audit of the files that stand before a run finds nothing.
pub record IsCleanAudit (meaning : Meaning) (env : Env) (order : Order) (old : History) : Type 0
  where
    pub makefiles : AreAuditable meaning env order (files_of old)
    -- The plan was audited by looks at these files, and this was found: all that had happened since
    -- the run began, as looks of its reading and its planning, changed none.
    pub nodes : List NodeFacts
    pub before : History
    pub unchanged : (path : List ℕ) → (state_of before).files path ≡ (state_of old).files path
    pub after : History
    pub audited : audit.AreAudited (SawFiles meaning (Some before) (Some after)) makefiles.work nodes
    -- Nothing of that is a breach.
    pub facts : PlanFacts
    pub mode : facts.mode ≡ not (mode_is_full makefiles.work.mode)
    pub nothing : breaches facts nodes ≡ []

-- What is audited so is all that is asked of what makefiles, meta files, records and times say, for
-- this work, with the lines that nodes have on the files that stand, and with these records.
pub record IsAuditOf (meaning : Meaning) (env : Env) (order : Order) (old : History)
    (its : IsCleanAudit meaning env order old) : Type 0
  where
    pub are : AreAudited meaning env order old
    pub work_is : are.work ≡ its.makefiles.work
    pub lines_are : are.lines ≡ lines_on its.makefiles.work (files_of old)
    pub records_are : are.records ≡ records_in its.nodes

abbrev pub CleanAuditsAreAudited : Type 0
CleanAuditsAreAudited =
    (meaning : Meaning) (env : Env) (order : Order) (old : History)
    → (its : IsCleanAudit meaning env order old) → IsAuditOf meaning env order old its

-- Where an audit finds nothing, and meta files tell what happened, with exact records, the files
-- are sound: what is asked of the clean build holds, and each made file has the bytes of the clean
-- build already.
abbrev pub CleanAuditsAreSound : Type 0
CleanAuditsAreSound =
    (meaning : Meaning) (env : Env) (order : Order) (old : History)
    → (start : IsTrueStart meaning old) → HasExactHistory meaning old start
    → (its : IsCleanAudit meaning env order old)
    → HoldsOfFiles meaning env order old its.makefiles.work (lines_on its.makefiles.work (files_of old))
