-- Audits: a plan of the targets that are asked for is made, and what breaches what a build stands on
-- is told.
use Rattle.std.specs.Prelude.{◌≡◌, ◌⊎◌, ℕ, Bool, false, not, List, [], ◌++◌, length, Option, Result}
use Rattle.std.specs.Prelude.{Ok, Err}
use Rattle.std.specs.List.{AllByRecursion}
use Rattle.mk_audit.specs.Modes.{mode_is_full}
use Rattle.mk_audit.specs.Turns.{AreAudited}
use Rattle.mk_audit.specs.declared.fault.AuditFault.{AuditFault}
use Rattle.mk_breaches.specs.Breaches.{breaches}
use Rattle.mk_breaches.specs.Lines.{lines_of}
use Rattle.mk_breaches.specs.declared.breach.Breach.{Breach}
use Rattle.mk_breaches.specs.declared.node.PlanFacts.{PlanFacts}
use Rattle.mk_cli.specs.declared.order.Order.{Order}
use Rattle.mk_decision.specs.Decisions.{Work}
use Rattle.mk_decision.specs.Makers.{work_on}
use Rattle.mk_dirs.specs.Answered.{ByLooks}
use Rattle.mk_explain.specs.Turns.{SawFiles}
use Rattle.mk_graph.specs.declared.Made.{Made}
use Rattle.mk_graph.specs.declared.mode.Mode.{Mode}
use Rattle.mk_plan.specs.Plans.{planned}
use Rattle.mk_plan.specs.declared.plan.PlanNode.{PlanNode}
use Rattle.mk_scopes.specs.declared.scopes.Env.{Env}
use Rattle.mk_trace.proofs.AlongLemmas.{OnlyAsked}
use Rattle.mk_trace.specs.TrueBuilds.{LeavesFiles}
use Rattle.mk_modes.specs.Building.{IsUnplanned, Point, names_of}
use Rattle.mk_modes.specs.Ends.{of_audit, of_count}
use Rattle.mk_modes.specs.declared.auditing.Audit.{Audit}
use Rattle.mk_modes.specs.declared.building.Went.{Went}
use Rattle.mk_modes.specs.declared.report.End.{End}
use Rattle.mk_modes.specs.declared.report.End.TheVariants.{SinkFault, NoMemory}
use Rattle.mk_world.specs.History.{files_of}
use Rattle.mk_world.specs.Looks.{OnlyLooked}
use Rattle.mk_world.specs.Sinks.{Gains, GainsPart}
use Rattle.mk_world.specs.Talks.{Meaning}
use Rattle.mk_world.specs.Told.{Told}
use Rattle.mk_world.specs.declared.history.Happening.{Happening}
use Rattle.mk_world.specs.declared.history.History.{History}

-- what is found of a whole plan by its mode, and by whether what was asked of commands stands on
-- files that a build makes, and whether the plan would be another one without these
abbrev pub plan_facts : Mode → Bool → Bool → PlanFacts
plan_facts mode asks differs =
    record { mode = not (mode_is_full mode); asks = asks; differs = differs }

-- what an audit breaches
abbrev pub breaches_in : Audit → List Breach
breaches_in audit = breaches audit.plan audit.nodes

-- the lines of it, one after the other
abbrev pub lines_in : Audit → List ℕ
lines_in audit = lines_of audit.nodes (breaches_in audit)

-- What an audit gave: all that is to be found of a plan with this mode, or why it was stopped.
abbrev pub Finds : Meaning → Work → Mode → Option History → Option History → Result Audit AuditFault
    → Type 0
Finds meaning work mode before after (Ok audit) =
    AreAudited (SawFiles meaning before after) work audit.nodes
    × (audit.plan ≡ plan_facts mode false false)
Finds meaning work mode before after (Err fault) = Unit {0}

-- Where all was found, the lines of what is breached are printed, and how many breaches there are
-- is the end; or a part of the lines where a write fails, or none where there is no memory for
-- them. Where the audit was stopped, nothing is printed.
abbrev pub Tells : Result Audit AuditFault → Option (List ℕ) → Option (List ℕ) → End → Type 0
Tells (Ok audit) before after end =
    ((end ≡ of_count (length (breaches_in audit))) × Gains before after (lines_in audit))
    ⊎ (((end ≡ SinkFault) × GainsPart before after (lines_in audit))
    ⊎ ((end ≡ NoMemory) × Gains before after []))
Tells (Err fault) before after end = (end ≡ of_audit fault) × Gains before after []

-- what happened changed no file
pub record ChangesNoFile (old new : History) : Type 0 where
  pub happened : List Happening
  pub longer : new.events ≡ old.events ++ happened
  pub leave : AllByRecursion LeavesFiles happened
  pub files : files_of new ≡ files_of old

-- A plan was made by looks alone, with `.BEGIN` and `.END`, and it was audited by looks alone;
-- behind these make only asked, by which no file changed. It was not built.
pub record IsAuditedRun (meaning : Meaning) (env : Env) (made : Made) (order : Order)
    (first last : Point) (went : Went) : Type 0
  where
    pub planned_at : Option History
    pub nodes : List PlanNode
    pub planned : ByLooks first.history planned_at
        (λ files. planned files made order.flags.requested false ≡ Ok nodes)
    pub plan : went.plan ≡ names_of nodes
    pub events : went.events ≡ []
    pub audited_at : Option History
    pub looked : OnlyLooked planned_at audited_at
    pub asked : Told audited_at last.history (OnlyAsked meaning)
    pub left : Told audited_at last.history ChangesNoFile
    pub outcome : Result Audit AuditFault
    pub audits : Finds meaning (work_on nodes made order.flags) made.mode planned_at audited_at outcome
    pub tells : Tells outcome first.out last.out went.end

-- a run that tells what breaches what a build of what these makefiles say stands on
abbrev pub Audits : Meaning → Env → Made → Order → Point → Point → Went → Type 0
Audits meaning env made order first last went =
    IsUnplanned made order.flags.requested false first last went
    ⊎ IsAuditedRun meaning env made order first last went
