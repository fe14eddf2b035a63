-- The ends of a run.
use Rattle.std.specs.Prelude.{◌≡◌, ◌⊎◌, ℕ, ◌==◌, List, if◌then◌else◌}
use Rattle.mk_trace.specs.declared.result.BuildResult.{BuildResult}
use Rattle.mk_trace.specs.declared.result.BuildResult.TheVariants as build
use Rattle.mk_plan.specs.Plans.{node_at}
use Rattle.mk_plan.specs.declared.fault.PlanFault.{PlanFault}
use Rattle.mk_plan.specs.declared.fault.PlanFault.TheVariants as plan
use Rattle.mk_plan.specs.declared.plan.PlanNode.{PlanNode}
use Rattle.mk_audit.specs.declared.fault.AuditFault.{AuditFault}
use Rattle.mk_audit.specs.declared.fault.AuditFault.TheVariants as audit
use Rattle.mk_explain.specs.declared.fault.ExplainFault.{ExplainFault}
use Rattle.mk_explain.specs.declared.fault.ExplainFault.TheVariants as explain
use Rattle.mk_makefile.specs.declared.fault.ReadFault.{ReadFault}
use Rattle.mk_makefile.specs.declared.fault.ReadFault.TheVariants as read
use Rattle.mk_query.specs.declared.result.QueryResult.{QueryResult}
use Rattle.mk_query.specs.declared.result.QueryResult.TheVariants as query
use Rattle.mk_modes.specs.declared.report.End.{End}
use Rattle.mk_modes.specs.declared.report.End.TheVariants.{Done, Usage, NoFile, Bad, Print}
use Rattle.mk_modes.specs.declared.report.End.TheVariants.{NoTarget, NoRule, Cycle, Limit, Expand}
use Rattle.mk_modes.specs.declared.report.End.TheVariants.{JobFailed, NotUpToDate, Breaches}
use Rattle.mk_modes.specs.declared.report.End.TheVariants.{WorldFault, SinkFault, NoMemory}

-- the exit status
abbrev pub status_of : End → ℕ
status_of Done = 0
status_of (Usage i) = 2
status_of (NoFile file) = 2
status_of (Bad file line what) = 2
status_of (Print i fault) = 2
status_of NoTarget = 2
status_of (NoRule name) = 2
status_of (Cycle names) = 2
status_of (Limit kind most) = 2
status_of (Expand name number fault) = 2
status_of (JobFailed name number status) = 1
status_of (NotUpToDate name) = 1
status_of (Breaches count) = 1
status_of WorldFault = 3
status_of SinkFault = 3
status_of NoMemory = 4

-- the end of a run whose makefiles could not be read
abbrev pub of_read : ReadFault → End
of_read (read.NoFile file) = NoFile file
of_read (read.Bad file line what) = Bad file line what
of_read (read.Limit kind most) = Limit kind most
of_read read.World = WorldFault
of_read read.Sink = SinkFault
of_read read.NoMemory = NoMemory

-- the end of a run whose plan was refused
abbrev pub of_plan : PlanFault → End
of_plan plan.NoTarget = NoTarget
of_plan (plan.NoRule name) = NoRule name
of_plan (plan.Cycle names) = Cycle names
of_plan (plan.Limit kind most) = Limit kind most
of_plan plan.Failed = WorldFault
of_plan plan.NoMemory = NoMemory

-- the end of a run by that of its build; nodes are named by their paths
abbrev pub of_build : List PlanNode → BuildResult → End
of_build nodes build.Done = Done
of_build nodes (build.JobFailed n number status) = JobFailed (node_at nodes n).name number status
of_build nodes (build.Expand n number fault) = Expand (node_at nodes n).name number fault
of_build nodes build.World = WorldFault
of_build nodes build.Sink = SinkFault
of_build nodes build.NoMemory = NoMemory

-- the end of a run by that of its query
abbrev pub of_query : List PlanNode → QueryResult → End
of_query nodes query.UpToDate = Done
of_query nodes (query.OutOfDate n) = NotUpToDate (node_at nodes n).name
of_query nodes (query.Expand n number fault) = Expand (node_at nodes n).name number fault
of_query nodes query.World = WorldFault
of_query nodes query.NoMemory = NoMemory

-- the end of a run whose plan could not be explained
abbrev pub of_explain : List PlanNode → ExplainFault → End
of_explain nodes (explain.Expand n number fault) = Expand (node_at nodes n).name number fault
of_explain nodes explain.Failed = WorldFault
of_explain nodes explain.NoMemory = NoMemory

-- the end of a run whose plan could not be audited
abbrev pub of_audit : AuditFault → End
of_audit audit.Failed = WorldFault
of_audit audit.NoMemory = NoMemory

-- the end of an audit that told so many breaches
abbrev pub of_count : ℕ → End
of_count count = if count == 0 then Done else Breaches count

-- an end that no word and no file causes
abbrev pub IsOutside : End → Type 0
IsOutside end = (end ≡ WorldFault) ⊎ (end ≡ NoMemory)
