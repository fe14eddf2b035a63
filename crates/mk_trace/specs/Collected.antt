-- What the job of a node collects for its meta file.
use Rattle.std.specs.Prelude.{ℕ, ◌<◌, ◌^◌, ◌==◌, List, [], ◌++◌, length, map, Option, Some, None}
use Rattle.std.specs.Prelude.{Bool, if◌then◌else◌}
use Rattle.mk_filemon.specs.declared.record.Rec.{Rec}
use Rattle.mk_meta.specs.Jobs.{kept_line, numbered}
use Rattle.mk_meta.specs.declared.meta.Meta.{Meta}
use Rattle.mk_plan.specs.Metas.{is_meta}
use Rattle.mk_plan.specs.Plans.{node_at}
use Rattle.mk_world.specs.declared.command.TaskLine.{TaskLine}
use Rattle.mk_world.specs.declared.step.Ended.{Ended}
use Rattle.mk_world.specs.declared.step.Op.{Op}
use Rattle.mk_decision.specs.Decisions.{Work}
use Rattle.mk_trace.specs.declared.collected.Collected.{Collected}

-- a job that was not opened has no start stamp
abbrev pub nothing_collected : Collected
nothing_collected = record { owner = 0; output = []; records = None }

-- a job begins at this time
abbrev pub begun : ℕ → Collected
begun time = record { owner = time; output = []; records = Some [] }

-- behind these, those of the child of a line
abbrev pub more_records : ℕ → Option (List Rec) → Option (List Op) → Option (List Rec)
more_records number (Some records) (Some ops) = Some (records ++ numbered number ops)
more_records number None recorded = None
more_records number (Some records) None = None

-- The child of a line has ended. A job without a meta file collects nothing.
abbrev pub with_end : Collected → ℕ → Ended → Collected
with_end collected number ended =
    if collected.owner == 0 then collected
    else record {
      owner = collected.owner;
      output = collected.output ++ ended.output;
      records = more_records number collected.records ended.records;
    }

-- sizes that a machine can count
pub record IsCountable (collected : Collected) : Type 0 where
  pub owner : collected.owner < 2 ^ 64
  pub output : length collected.output < 2 ^ 64

-- a node in meta mode
abbrev pub has_meta : Work → ℕ → Bool
has_meta work node = is_meta work.mode (node_at work.plan node).marks

-- What the meta file of a node's job tells: when the job began, the exported variables, the lines
-- of its task, what they printed and, where records count, what they recorded.
abbrev pub meta_of : Work → ℕ → List TaskLine → Collected → Meta
meta_of work node lines collected = record {
  stamp = record { 0 = collected.owner };
  exports = work.mode.exports;
  lines = map kept_line lines;
  cwd = work.variables.cwd;
  target = (node_at work.plan node).name;
  output = collected.output;
  records = if work.mode.nofilemon then None else collected.records;
}
