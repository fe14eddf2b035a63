-- What comes next in a run.
use Rattle.std.specs.Prelude.{ℕ, zero, suc, Option, Some, None}
use Rattle.mk_plan.specs.Deciding.{may_decide, open_jobs}
use Rattle.mk_sched.specs.Schedule.{Schedule}
use Rattle.mk_sched.specs.declared.sched.Next.{Next}
use Rattle.mk_sched.specs.declared.sched.Next.TheVariants.{Decide, Wait, Over}

-- The node that may be decided, where there is one. Else the end of a job is waited for where one
-- is open, and where none is, the run is over.
abbrev pub next_by : Option ℕ → ℕ → Next
next_by (Some node) open_ones = Decide node
next_by None zero = Over
next_by None (suc more) = Wait

abbrev pub next_of : Schedule → Next
next_of schedule = next_by (may_decide schedule.rules schedule.nodes) (open_jobs schedule.nodes)
