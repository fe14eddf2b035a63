use Rattle.std.proofs.Common.{◌<◌, ◌-◌, length, drop}
use Rattle.mk_sched.specs.Counts.{times}
use Rattle.mk_driver.specs.Jobs.{tickets_of}
use Rattle.mk_driver.proofs.job.take_job.Given as goal

-- the job stands behind this place
abbrev pub invariant-jobs : goal.invariant-jobs
invariant-jobs l = 0 < times l.ticket (tickets_of (drop l.place l.jobs.items))

abbrev pub decreases-jobs : goal.decreases-jobs
decreases-jobs l = length l.jobs.items - l.place
