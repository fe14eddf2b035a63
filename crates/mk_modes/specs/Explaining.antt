-- Explanations: a plan of the targets that are asked for is made, and why its nodes are out of date
-- is told.
use Rattle.std.specs.Prelude.{◌≡◌, ◌⊎◌, ℕ, false, List, [], ◌∷◌, ◌++◌, Option, Result, Ok, Err}
use Rattle.mk_decision.specs.Decisions.{Work}
use Rattle.mk_decision.specs.Makers.{work_on}
use Rattle.mk_explain.specs.Turns.{IsExplained, IsStoppedBy, SawFiles}
use Rattle.mk_explain.specs.declared.fault.ExplainFault.{ExplainFault}
use Rattle.mk_explain.specs.declared.reason.Reason.{Reason}
use Rattle.mk_flags.specs.declared.Flags.{Flags}
use Rattle.mk_graph.specs.declared.Made.{Made}
use Rattle.mk_plan.specs.Plans.{planned}
use Rattle.mk_plan.specs.declared.plan.PlanNode.{PlanNode}
use Rattle.mk_modes.specs.Building.{IsUnplanned, Point, names_of}
use Rattle.mk_modes.specs.Ends.{of_explain}
use Rattle.mk_modes.specs.declared.building.Went.{Went}
use Rattle.mk_modes.specs.declared.report.End.{End}
use Rattle.mk_modes.specs.declared.report.End.TheVariants.{Done, SinkFault, NoMemory}
use Rattle.mk_dirs.specs.Answered.{ByLooks}
use Rattle.mk_world.specs.Looks.{OnlyLooked}
use Rattle.mk_world.specs.Sinks.{Gains, GainsPart}
use Rattle.mk_world.specs.Talks.{Meaning}
use Rattle.mk_world.specs.declared.history.History.{History}

-- the lines of reasons, one after the other
abbrev pub lines_of : List Reason → List ℕ
lines_of [] = []
lines_of (reason ∷ reasons) = reason.line ++ lines_of reasons

-- what an explanation gave: all reasons, or why it was stopped
abbrev pub Explains : Meaning → Work → Option History → Option History
    → Result (List Reason) ExplainFault
    → Type 0
Explains meaning work before after (Ok reasons) = IsExplained (SawFiles meaning before after) work reasons
Explains meaning work before after (Err fault) = IsStoppedBy (SawFiles meaning before after) work fault

-- Where all was explained, its lines are printed, or a part of them where a write fails. Else
-- nothing is.
abbrev pub Tells : List PlanNode → Result (List Reason) ExplainFault → Option (List ℕ)
    → Option (List ℕ)
    → End → Type 0
Tells nodes (Ok reasons) before after end =
    ((end ≡ Done) × Gains before after (lines_of reasons))
    ⊎ ((end ≡ SinkFault) × GainsPart before after (lines_of reasons))
Tells nodes (Err fault) before after end =
    ((end ≡ of_explain nodes fault) ⊎ (end ≡ NoMemory)) × Gains before after []

-- A plan was made by looks alone, with `.BEGIN` and `.END`, and it was explained by looks alone; it
-- was not built.
pub record IsExplainedRun (meaning : Meaning) (made : Made) (flags : Flags) (first last : Point) (went : Went)
    : Type 0
  where
    pub planned_at : Option History
    pub nodes : List PlanNode
    pub planned : ByLooks first.history planned_at
        (λ files. planned files made flags.requested false ≡ Ok nodes)
    pub plan : went.plan ≡ names_of nodes
    pub events : went.events ≡ []
    pub outcome : Result (List Reason) ExplainFault
    pub looked : OnlyLooked planned_at last.history
    pub explains : Explains meaning (work_on nodes made flags) planned_at last.history outcome
    pub tells : Tells nodes outcome first.out last.out went.end

-- a run that tells why what these makefiles say is out of date
abbrev pub Explanation : Meaning → Made → Flags → Point → Point → Went → Type 0
Explanation meaning made flags first last went =
    IsUnplanned made flags.requested false first last went
    ⊎ IsExplainedRun meaning made flags first last went
