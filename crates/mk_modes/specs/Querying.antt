-- Queries: a plan of the targets that are asked for is made, and it is asked whether they are up to
-- date.
use Rattle.std.specs.Prelude.{◌≡◌, ◌⊎◌, Bool, true, false, List, [], Option, Ok}
use Rattle.mk_decision.specs.Makers.{work_on}
use Rattle.mk_flags.specs.declared.Flags.{Flags}
use Rattle.mk_graph.specs.declared.Made.{Made}
use Rattle.mk_plan.specs.Plans.{planned}
use Rattle.mk_plan.specs.declared.plan.PlanNode.{PlanNode}
use Rattle.mk_query.specs.Answers.{IsAnswer}
use Rattle.mk_query.specs.declared.result.QueryResult.{QueryResult}
use Rattle.mk_query.specs.declared.result.QueryResult.TheVariants as query
use Rattle.mk_modes.specs.Building.{IsUnplanned, Point, names_of}
use Rattle.mk_modes.specs.Ends.{of_query}
use Rattle.mk_modes.specs.declared.building.Went.{Went}
use Rattle.mk_modes.specs.declared.report.End.{End}
use Rattle.mk_modes.specs.declared.report.End.TheVariants.{NoMemory}
use Rattle.mk_dirs.specs.Answered.{ByLooks}
use Rattle.mk_world.specs.Sinks.{Gains}
use Rattle.mk_world.specs.declared.history.History.{History}

-- whether an end of a query names a node, for which it takes memory
abbrev pub names_node : QueryResult → Bool
names_node query.UpToDate = false
names_node (query.OutOfDate n) = true
names_node (query.Expand n number fault) = true
names_node query.World = false
names_node query.NoMemory = false

-- the end of a run by that of its query, or want of memory for a name in it
abbrev pub IsEndOf : List PlanNode → QueryResult → End → Type 0
IsEndOf nodes result end =
    (end ≡ of_query nodes result) ⊎ ((end ≡ NoMemory) × (names_node result ≡ true))

-- A plan was made by looks alone, and then its nodes were looked at; nothing was printed.
pub record IsQueried (made : Made) (flags : Flags) (first last : Point) (went : Went) : Type 0 where
  pub planned_at : Option History
  pub nodes : List PlanNode
  pub planned : ByLooks first.history planned_at
      (λ files. planned files made flags.requested flags.query ≡ Ok nodes)
  pub plan : went.plan ≡ names_of nodes
  pub result : QueryResult
  pub answered : IsAnswer (work_on nodes made flags) planned_at last.history result went.events
  pub end : IsEndOf nodes result went.end
  pub printed : Gains first.out last.out []

-- a run that asks whether what these makefiles say is up to date
abbrev pub Queries : Made → Flags → Point → Point → Went → Type 0
Queries made flags first last went =
    IsUnplanned made flags.requested flags.query first last went
    ⊎ IsQueried made flags first last went
