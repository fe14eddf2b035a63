use Rattle.std.proofs.Common.{map}
use Rattle.mk_world.proofs.SinkLemmas.{OnErr-from}
use Rattle.mk_world.specs.Looks.{dated}
use Rattle.mk_decision.proofs.DateLemmas.{records-seen}
use Rattle.mk_decision.proofs.NewestLemmas.{raised-three}
use Rattle.mk_decision.proofs.SightLemmas.{some-behind}
use Rattle.mk_decision.proofs.paths.look_at_records.Goals as goal

pub returns-in_err-misses-clause-some : goal.returns-in_err-misses-clause-some
returns-in_err-misses-clause-some g c =
    let reads = c.in_ok-reads.ensures.seen in
    OnErr-from c.from_residual-in_err-misses.result
    (some-behind g.W.World.meaning _ _ _ (map dated reads.dates) reads.looked
    c.in_err-misses.ensures.some)

pub returns-in_err-left-clause-some : goal.returns-in_err-left-clause-some
returns-in_err-left-clause-some g c =
    let reads = c.in_ok-reads.ensures.seen in
    let misses = c.in_ok-misses.ensures.seen in
    OnErr-from c.from_residual-in_err-left.result
    (some-behind g.W.World.meaning _ _ _ (map dated reads.dates) reads.looked
    (some-behind g.W.World.meaning _ _ _ (map dated misses.dates) misses.looked
    c.in_err-left.ensures.some))

pub returns-clause-seen : goal.returns-clause-seen
returns-clause-seen g c =
    let paths = c.in_ok-paths in
    records-seen g.W.World.meaning _ _ _ _ c.args.ignored.now c.args.records.now paths.paths
    (record { reads = c.in_ok-reads.reads; misses = c.in_ok-misses.misses; left = c.in_ok-left.left })
    paths.ensures.found paths.ensures.missed paths.ensures.left
    (rw c.as_slice.ensures.value at c.in_ok-reads.ensures.seen)
    (rw c.as_slice-2.ensures.value at c.in_ok-misses.ensures.seen)
    (rw c.as_slice-3.ensures.value at c.in_ok-left.ensures.seen)

pub returns-clause-newest : goal.returns-clause-newest
returns-clause-newest g c =
    raised-three _ _ _ _ c.in_ok-reads.reads c.in_ok-misses.misses c.in_ok-left.left
    c.in_ok-reads.ensures.newest c.in_ok-misses.ensures.newest c.in_ok-left.ensures.newest
