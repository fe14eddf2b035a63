-- Builds: a plan of the targets that are asked for is made, and its nodes are built.
use Rattle.std.specs.Prelude.{◌≡◌, ◌⊎◌, ℕ, ◌≤◌, Bool, true, false, List, []}
use Rattle.std.specs.Prelude.{Option, Ok}
use Rattle.mk_trace.specs.Builds.{moment}
use Rattle.mk_headline.specs.CleanBuilds.{IsCleanBuild}
use Rattle.mk_decision.specs.Makers.{work_on}
use Rattle.mk_trace.specs.declared.result.BuildResult.{BuildResult}
use Rattle.mk_trace.specs.declared.result.BuildResult.TheVariants as build
use Rattle.mk_flags.specs.declared.Flags.{Flags}
use Rattle.mk_graph.specs.Nodes as graph
use Rattle.mk_graph.specs.declared.Made.{Made}
pub use Rattle.mk_plan.specs.Names.{names_of}
use Rattle.mk_plan.specs.Plans.{planned}
use Rattle.mk_plan.specs.Refusals.{IsRefusedBy}
use Rattle.mk_plan.specs.declared.fault.PlanFault.{PlanFault}
use Rattle.mk_plan.specs.declared.plan.PlanNode.{PlanNode}
use Rattle.mk_pool.specs.Pool.{AreDistinct}
use Rattle.mk_modes.specs.Ends.{of_plan, of_build}
use Rattle.mk_modes.specs.declared.building.Went.{Went}
use Rattle.mk_modes.specs.declared.report.End.{End}
use Rattle.mk_modes.specs.declared.report.End.TheVariants.{NoMemory}
use Rattle.mk_dirs.specs.Answered.{ByLooks}
use Rattle.mk_world.specs.Sinks.{Gains}
use Rattle.mk_world.specs.Talks.{Meaning}
use Rattle.mk_world.specs.declared.history.History.{History}

-- so many jobs may run at once
pub record AreJobs (jobs : ℕ) : Type 0 where
  pub some : 1 ≤ jobs
  pub few : jobs ≤ 256

-- how a run went that built nothing
abbrev pub unbuilt : End → Went
unbuilt end = record { end = end; plan = []; events = [] }

-- what the world tells and what standard output holds, at one moment
pub record Point : Type 0 where
  pub history : Option History
  pub out : Option (List ℕ)

abbrev pub point : Option History → Option (List ℕ) → Point
point history out = record { history = history; out = out }

-- whether an end of a build names a node, for which it takes memory
abbrev pub names_node : BuildResult → Bool
names_node build.Done = false
names_node (build.JobFailed n number status) = true
names_node (build.Expand n number fault) = true
names_node build.World = false
names_node build.Sink = false
names_node build.NoMemory = false

-- the end of a run by that of its build, or want of memory for a name in it
abbrev pub IsEndOf : List PlanNode → BuildResult → End → Type 0
IsEndOf nodes result end =
    (end ≡ of_build nodes result) ⊎ ((end ≡ NoMemory) × (names_node result ≡ true))

-- There was no plan: it is refused, or memory ran out or the world failed before it was made.
pub record IsUnplanned (made : Made) (requested : List (List ℕ)) (query : Bool) (first last : Point)
    (went : Went) : Type 0
  where
    pub fault : PlanFault
    pub refused : ByLooks first.history last.history
        (λ files. IsRefusedBy fault (planned files made requested query))
    pub is : went ≡ unbuilt (of_plan fault)
    pub printed : Gains first.out last.out []

-- A plan was made by looks alone, and then it was built.
pub record IsBuilt (meaning : Meaning) (made : Made) (flags : Flags) (first last : Point)
    (went : Went) : Type 0
  where
    pub planned_at : Option History
    pub nodes : List PlanNode
    pub planned : ByLooks first.history planned_at
        (λ files. planned files made flags.requested flags.query ≡ Ok nodes)
    pub plan : went.plan ≡ names_of nodes
    -- no two nodes of the graph have one name
    pub names_differ : AreDistinct (graph.names_of made.graph)
    pub result : BuildResult
    pub built : IsCleanBuild meaning (work_on nodes made flags) result
        (moment planned_at first.out []) (moment last.history last.out went.events)
    pub end : IsEndOf nodes result went.end

-- a run that builds what these makefiles say
abbrev pub Builds : Meaning → Made → Flags → Point → Point → Went → Type 0
Builds meaning made flags first last went =
    IsUnplanned made flags.requested flags.query first last went
    ⊎ IsBuilt meaning made flags first last went
