-- What is decided of a node, and why: that it is kept, started or refused.
use Rattle.std.specs.Prelude.{◌≡◌, ◌⊎◌, ℕ, ◌<◌, List, [], ◌++◌, map, length, Option, Some, None}
use Rattle.std.specs.Prelude.{Result, Ok, Err}
use Rattle.mk_values.specs.Facts.{Lists}
use Rattle.mk_values.specs.declared.facts.Asked.{Asked}
use Rattle.mk_values.specs.declared.fault.ExpandFault.{ExpandFault}
use Rattle.mk_flags.specs.declared.Flags.{Flags}
use Rattle.mk_graph.specs.declared.mode.Mode.{Mode}
use Rattle.mk_meta.specs.TrueHistory.{meta_path}
use Rattle.mk_oodate.specs.declared.reason.NodeMode.{NodeMode}
use Rattle.mk_oodate.specs.declared.reason.Why.{Why}
use Rattle.mk_plan.specs.Asking.{answers_by, as_asked}
use Rattle.mk_plan.specs.Plans.{node_at}
use Rattle.mk_plan.specs.Tasks.{Setting, names_at, setting_of, task_of, task_questions, task_with}
use Rattle.mk_plan.specs.declared.fault.TaskFault.{TaskFault}
use Rattle.mk_plan.specs.declared.plan.PlanNode.{PlanNode}
use Rattle.mk_scopes.specs.Scopes.{Variables}
use Rattle.mk_world.specs.Looks.{Dated, Seen, dated}
use Rattle.mk_world.specs.declared.command.Task.{Task}
use Rattle.mk_world.specs.declared.command.TaskLine.{TaskLine}
use Rattle.mk_world.specs.declared.time.When.{When}
use Rattle.mk_decision.specs.Ages.{IsWalk, source_ages}
use Rattle.mk_decision.specs.Metas.{MetaSight, meta_looks}
use Rattle.mk_decision.specs.Reasons.{IsMetaSight, reason}
use Rattle.mk_decision.specs.Sights.{seen_of}
use Rattle.mk_decision.specs.Tests.{newer_names, node_mode}
use Rattle.mk_decision.specs.declared.decision.Decision.{Decision}
use Rattle.mk_decision.specs.declared.decision.Decision.TheVariants.{Keep, Refuse, Make}
use Rattle.mk_decision.specs.declared.sight.Sighting.{Sighting}

-- what is built: the plan, with the variables, the known suffixes, what answers conditions, the
-- options, and how the makefiles want the build to go
pub record Work : Type 0 where
  pub plan : List PlanNode
  pub variables : Variables
  pub suffixes : List (List ℕ)
  pub lists : Lists
  pub flags : Flags
  pub mode : Mode

abbrev pub source_names : Work → ℕ → List (List ℕ)
source_names work node = names_at work.plan (node_at work.plan node).sources

-- what counts for a node
abbrev pub mode_at : Work → ℕ → NodeMode
mode_at work node = node_mode work.mode (node_at work.plan node).marks

-- The first looks for a node: those at its own file and at the nodes whose ages count, and then one
-- at each path that `exists` is asked of in its commands.
pub record Sight (work : Work) (node : ℕ) (seen : List Seen) : Type 0 where
  pub target : When
  pub sources : List Sighting
  pub asked : List Dated
  pub are : seen ≡ seen_of work.plan node target sources ++ map dated asked
  pub walk : IsWalk work.plan node target sources

-- the sources that are newer than a node's file, or new
abbrev pub newer_of : Work → ℕ → When → List Sighting → List (List ℕ)
newer_of work node target sources =
    newer_names target (source_names work node) (source_ages work.plan node sources)

abbrev pub setting_by : Work → List Dated → Setting
setting_by work asked = setting_of work.variables work.lists (answers_by asked)

-- the task of a node with these newer sources, by looks for `exists`
abbrev pub asked_task : Work → ℕ → List (List ℕ) → List Dated → Result (Task × List Asked) TaskFault
asked_task work node newer asked =
    task_of (setting_by work asked) work.suffixes work.plan node newer work.mode work.flags []

-- what is asked where it is made
abbrev pub asked_questions : Work → ℕ → List (List ℕ) → List Dated → List Asked
asked_questions work node newer asked =
    task_questions (setting_by work asked) work.suffixes work.plan node newer work.mode work.flags []

-- A node has this task by its looks, and `exists` was asked of no other path.
abbrev pub HasTask : Work → ℕ → When → List Sighting → List Dated → Task → Type 0
HasTask work node target sources asked task =
    asked_task work node (newer_of work node target sources) asked ≡ Ok (task, map as_asked asked)

-- A node has no task by its looks: this line is the first that is at fault. `exists` was asked of
-- no other path.
abbrev pub HasFault : Work → ℕ → When → List Sighting → List Dated → ℕ → ExpandFault → Type 0
HasFault work node target sources asked number what =
    (asked_task work node (newer_of work node target sources) asked
    ≡ Err (record { line = number; what = what }))
    × (asked_questions work node (newer_of work node target sources) asked ≡ map as_asked asked)

-- A node was judged by these looks: it has this task, and is out of date for this reason, or is
-- not. Behind the first looks stand those in meta mode, where there are any.
pub record IsJudged (work : Work) (node : ℕ) (seen : List Seen) (task : Task) (why : Option Why)
    : Type 0
  where
    pub first : List Seen
    pub sight : Sight work node first
    pub meta : Option MetaSight
    pub are : seen ≡ first ++ meta_looks (meta_path (node_at work.plan node).name) meta
    pub has : HasTask work node sight.target sight.sources sight.asked task
    pub opened : IsMetaSight work.mode.ignore_paths (mode_at work node) task sight.target
        (source_ages work.plan node sight.sources) meta
    pub reason : why
        ≡ reason (mode_at work node) task sight.target (source_ages work.plan node sight.sources) meta

-- a node that has a task is kept where there is no reason to make it
abbrev pub decided : Task → Option Why → Decision
decided task None = Keep
decided task (Some why) = Make task why

-- A node without commands is kept without a look. One with commands is kept where it has a task, of
-- which these are the lines, and is not out of date.
abbrev pub IsKept : Work → ℕ → List Seen → List TaskLine → Type 0
IsKept work node seen lines =
    (((node_at work.plan node).commands ≡ []) × (seen ≡ []))
    ⊎ ((0 < length (node_at work.plan node).commands)
    × (task : Task) × IsJudged work node seen task None × (lines ≡ task.lines))

-- Its lines are started where it has a task, which they are, and is out of date.
abbrev pub IsBegun : Work → ℕ → List Seen → List TaskLine → Type 0
IsBegun work node seen lines =
    (task : Task) × (why : Why) × IsJudged work node seen task (Some why) × (lines ≡ task.lines)

-- It is refused where it has no task, by the first line that is at fault.
abbrev pub IsRefused : Work → ℕ → List Seen → ℕ → ExpandFault → Type 0
IsRefused work node seen number what =
    (sight : Sight work node seen)
    × HasFault work node sight.target sight.sources sight.asked number what

-- how a node is decided, and why
abbrev pub IsDecision : Work → ℕ → List Seen → Decision → Type 0
IsDecision work node seen Keep = (lines : List TaskLine) × IsKept work node seen lines
IsDecision work node seen (Refuse number what) = IsRefused work node seen number what
IsDecision work node seen (Make task why) =
    IsBegun work node seen task.lines × (0 < length task.lines)
    × (task ≡ task_with work.variables work.mode.exports (node_at work.plan node).name task.lines)
    × IsJudged work node seen task (Some why)
