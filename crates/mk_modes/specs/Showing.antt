-- Dry runs: a plan of the targets that are asked for is made, and what a build would do is shown.
use Rattle.std.specs.Prelude.{◌≡◌, ◌⊎◌, List, [], Option, Ok}
use Rattle.mk_decision.specs.Makers.{work_on}
use Rattle.mk_dry.specs.DryRuns.{IsDryRun}
use Rattle.mk_flags.specs.declared.Flags.{Flags}
use Rattle.mk_graph.specs.declared.Made.{Made}
use Rattle.mk_plan.specs.Plans.{planned}
use Rattle.mk_plan.specs.declared.plan.PlanNode.{PlanNode}
use Rattle.mk_modes.specs.Building.{IsEndOf, IsUnplanned, Point, names_of}
use Rattle.mk_modes.specs.declared.building.Went.{Went}
use Rattle.mk_trace.specs.Builds.{moment}
use Rattle.mk_trace.specs.declared.result.BuildResult.{BuildResult}
use Rattle.mk_dirs.specs.Answered.{ByLooks}
use Rattle.mk_world.specs.Talks.{Meaning}
use Rattle.mk_world.specs.declared.history.History.{History}

-- A plan was made by looks alone, and then what is to be done was shown.
pub record IsShown (meaning : Meaning) (made : Made) (flags : Flags) (first last : Point) (went : Went) : Type 0
  where
    pub planned_at : Option History
    pub nodes : List PlanNode
    pub planned : ByLooks first.history planned_at
        (λ files. planned files made flags.requested flags.query ≡ Ok nodes)
    pub plan : went.plan ≡ names_of nodes
    pub result : BuildResult
    pub shown : IsDryRun meaning (work_on nodes made flags) result
        (moment planned_at first.out []) (moment last.history last.out went.events)
    pub end : IsEndOf nodes result went.end

-- a run that shows what is to be done of what these makefiles say
abbrev pub Shows : Meaning → Made → Flags → Point → Point → Went → Type 0
Shows meaning made flags first last went =
    IsUnplanned made flags.requested flags.query first last went
    ⊎ IsShown meaning made flags first last went
