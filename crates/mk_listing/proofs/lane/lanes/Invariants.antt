use Rattle.std.proofs.Common.{◌≡◌, ◌++◌, ℕ, List, [], drop}
use Rattle.mk_listing.specs.Timelines.{are_apart}
use Rattle.mk_listing.proofs.lane.lanes.Given as goal

-- with lanes for the jobs that are left, all are apart where these are
abbrev pub invariant-loop-job : goal.invariant-loop-job
invariant-loop-job l =
    (more : List ℕ)
    → are_apart [] l.jobs (l.lanes.items ++ more)
    ≡ are_apart l.ends.items (drop l.job-index l.jobs) more
