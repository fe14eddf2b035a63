-- What an audit looks at for a node that has commands.
use Rattle.std.specs.Prelude.{◌≡◌, ℕ, true, false, List, [], ◌++◌, map, unwrap_or}
use Rattle.std.specs.Prelude.{Option, Some, None, Result, Ok, Err, if◌then◌else◌}
use Rattle.std.specs.Str.{bytes_eq}
use Rattle.mk_decision.specs.Ages.{IsWalk}
use Rattle.mk_decision.specs.Decisions.{Work, asked_questions, asked_task, mode_at, newer_of}
use Rattle.mk_decision.specs.Decisions.{setting_by}
use Rattle.mk_decision.specs.Metas.{AreOf, IsValueOf, MetaSight, meta_looks}
use Rattle.mk_decision.specs.Sights.{seen_of}
use Rattle.mk_decision.specs.declared.sight.Sighting.{Sighting}
use Rattle.mk_filemon.specs.declared.record.Rec.{Rec}
use Rattle.mk_graph.specs.declared.mode.Mode.{Mode}
use Rattle.mk_meta.specs.TrueHistory.{meta_path}
use Rattle.mk_meta.specs.declared.meta.Meta.{Meta}
use Rattle.mk_plan.specs.Asking.{as_asked}
use Rattle.mk_plan.specs.Newer.{names_of_task}
use Rattle.mk_plan.specs.Plans.{node_at}
use Rattle.mk_plan.specs.declared.fault.TaskFault.{TaskFault}
use Rattle.mk_values.specs.declared.facts.Asked.{Asked}
use Rattle.mk_world.specs.Looks.{Dated, Seen, dated}
use Rattle.mk_world.specs.declared.time.When.{When}

-- what was told: the time of the node's file, those of the nodes that count for it, what `exists`
-- was answered where the names of its task were looked up, what it was answered where the task was
-- made, and what was seen of its meta file
pub record NodeSight : Type 0 where
  pub target : When
  pub sources : List Sighting
  pub named : List Dated
  pub asked : List Dated
  pub meta : Option MetaSight

-- the looks by which that was told, in order
abbrev pub looks_of : Work → ℕ → NodeSight → List Seen
looks_of work node sight =
    seen_of work.plan node sight.target sight.sources
    ++ ((map dated sight.named ++ map dated sight.asked)
    ++ meta_looks (meta_path (node_at work.plan node).name) sight.meta)

-- the names that its task looks up where these of its sources are newer, or the fault of the task,
-- by looks for `exists`
abbrev pub asked_names : Work → ℕ → List (List ℕ) → List Dated
    → Result (List (List ℕ) × List Asked) TaskFault
asked_names work node newer asked =
    names_of_task (setting_by work asked) work.suffixes work.plan node newer work.mode work.flags []

-- `exists` was asked of these paths and of no others, up to what was made, or to its fault.
abbrev pub IsAllAsked : {A : Type 0} → Result (A × List Asked) TaskFault → List Asked → List Dated
    → Type 0
IsAllAsked (Ok made) questions dates = made.1 ≡ map as_asked dates
IsAllAsked (Err fault) questions dates = questions ≡ map as_asked dates

-- The records of a node: those of its meta file, where that has some and is of this name.
abbrev pub records_of : List ℕ → Option Meta → List Rec
records_of name None = []
records_of name (Some meta) = if bytes_eq meta.target name then unwrap_or meta.records [] else []

-- those by whose paths it may be out of date
abbrev pub counted : Mode → List Rec → List Rec
counted mode records = if mode.nofilemon then [] else records

-- In meta mode the meta file was read, its time was asked, and so was that of each path that counts
-- of its records. Else nothing of it was looked at.
abbrev pub IsMetaSeen : Work → ℕ → Option MetaSight → Type 0
IsMetaSeen work node None = (mode_at work node).meta ≡ false
IsMetaSeen work node (Some sight) =
    ((mode_at work node).meta ≡ true) × IsValueOf sight.bytes sight.value
    × AreOf work.mode.ignore_paths
    (counted work.mode (records_of (node_at work.plan node).name sight.value)) sight.paths

-- All this was looked at for the node, and nothing else.
pub record IsSeen (work : Work) (node : ℕ) (sight : NodeSight) : Type 0 where
  pub walk : IsWalk work.plan node sight.target sight.sources
  pub named : IsAllAsked
      (asked_names work node (newer_of work node sight.target sight.sources) sight.named)
      (asked_questions work node (newer_of work node sight.target sight.sources) sight.named)
      sight.named
  pub asked : IsAllAsked
      (asked_task work node (newer_of work node sight.target sight.sources) sight.asked)
      (asked_questions work node (newer_of work node sight.target sight.sources) sight.asked)
      sight.asked
  pub meta : IsMetaSeen work node sight.meta
