use Rattle.std.proofs.Common.{◌≡◌, ◌++◌, drop}
use Rattle.mk_listing.specs.Timelines as spec
use Rattle.mk_listing.proofs.timeline.push_events.Given as goal

-- the events so far, and those of the jobs that are left
abbrev pub invariant-loop-job : goal.invariant-loop-job
invariant-loop-job l =
    l.events ++ spec.events (drop l.job-index l.jobs) l.rest
    ≡ l.initial.events ++ spec.events l.jobs l.lanes
