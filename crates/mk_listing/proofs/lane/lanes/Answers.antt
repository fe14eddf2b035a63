use Rattle.std.proofs.Common.{drop}
use Rattle.std.proofs.lemmas.List.{drop_all}
use Rattle.mk_listing.proofs.LaneLemmas.{all-apart}
use Rattle.mk_listing.proofs.lane.lanes.Goals as goal

pub returns : goal.returns
returns c =
    let jobs = c.args.jobs.now in
    let done = c.loop-job.job-index in
    all-apart jobs (drop done jobs) c.loop-job.lanes.items c.loop-job.ends.items
    c.loop-job.invariant (drop_all done jobs c.loop-job-test.false)
