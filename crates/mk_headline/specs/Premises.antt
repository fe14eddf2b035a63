-- What a makefile, its options and its plan have to give.
use Rattle.std.specs.Prelude.{◌≡◌, ℕ, true, false, []}
use Rattle.std.specs.List.{AllByRecursion}
use Rattle.mk_decision.specs.Decisions.{Work, mode_at}
use Rattle.mk_oodate.specs.Fresh.{GoesByRecords}
use Rattle.mk_plan.specs.PlanLaws.{plan_names}
use Rattle.mk_plan.specs.Plans.{node_at, are_ordered, are_sourced}
use Rattle.mk_pool.specs.Pool.{AreDistinct}
use Rattle.mk_trace.specs.Runs.{Tasks}
use Rattle.mk_world.specs.declared.command.TaskLine.{TaskLine}
use Rattle.mk_headline.specs.Plans.{has_job, makes_file, is_meta_path}

-- Each node stands behind its predecessors, its sources are among these, and no two nodes have one
-- path. This holds of all plans of makefiles.
pub record IsWellMade (work : Work) : Type 0 where
  pub ordered : are_ordered 0 work.plan ≡ true
  pub sourced : are_sourced work.plan ≡ true
  pub distinct : AreDistinct (plan_names work.plan)

-- In meta mode with `curdirOk`, `missing-meta` and `missing-filemon`, and without `nofilemon` and
-- `ignore-cmd`, no path is ignored, no made file is marked `.NOMETA` or `.NOMETA_CMP`, and each
-- line of its task is compared. No node with commands has the path of a meta file.
pub record GoesByMetaMode (work : Work) (tasks : Tasks) : Type 0 where
  pub by_records : (node : ℕ) → makes_file (node_at work.plan node) ≡ true
      → GoesByRecords (mode_at work node)
  pub compared : (node : ℕ) → makes_file (node_at work.plan node) ≡ true
      → AllByRecursion (λ (line : TaskLine). line.compared ≡ true) (tasks node)
  pub none_ignored : work.mode.ignore_paths ≡ []
  pub no_meta_names : (node : ℕ) → has_job (node_at work.plan node) ≡ true
      → is_meta_path (node_at work.plan node).name ≡ false
