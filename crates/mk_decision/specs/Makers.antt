-- What a build goes by.
use Rattle.std.specs.Prelude.{ℕ, List, if◌then◌else◌}
use Rattle.mk_flags.specs.declared.Flags.{Flags}
use Rattle.mk_graph.specs.declared.Made.{Made}
use Rattle.mk_plan.specs.declared.plan.PlanNode.{PlanNode}
use Rattle.mk_plan.specs.Facts.{lists_of}
use Rattle.mk_decision.specs.Decisions.{Work}
use Rattle.mk_decision.specs.declared.maker.Maker.{Maker}

abbrev pub work_on : List PlanNode → Made → Flags → Work
work_on plan made flags = record {
  plan = plan;
  variables = made.scopes;
  suffixes = made.suffixes;
  lists = lists_of made flags.requested;
  flags = flags;
  mode = made.mode;
}

abbrev pub work_of : Maker → Work
work_of maker = record {
  plan = maker.plan.now;
  variables = maker.made.now.scopes;
  suffixes = maker.made.now.suffixes;
  lists = lists_of maker.made.now maker.flags.now.requested;
  flags = maker.flags.now;
  mode = maker.made.now.mode;
}

-- how many jobs may be open at once
abbrev pub jobs_of : Work → ℕ
jobs_of work = if work.mode.one_job then 1 else work.flags.jobs
