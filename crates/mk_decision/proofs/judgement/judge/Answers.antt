use Rattle.mk_plan.specs.Plans.{node_at}
use Rattle.mk_decision.specs.Ages.{decisive}
use Rattle.mk_decision.proofs.AgeLemmas.{are-before, ages-long}
use Rattle.mk_decision.proofs.judgement.judge.Goals as goal

pub source_ages-requires-clause-seen : goal.source_ages-requires-clause-seen
source_ages-requires-clause-seen c =
    let plan = c.args.maker.now.plan.now in
    let times = c.args.times.now in
    are-before plan c.args.node (decisive (node_at plan c.args.node) times.target) times.sources
    c.requires.walk.1

pub newer_names-requires : goal.newer_names-requires
newer_names-requires c =
    rw (
      c.as_slice-dated.ensures.value,
      c.as_slice-places.ensures.value,
      c.in_ok-ages.ensures,
      c.sources.ensures,
    )
    (ages-long c.args.maker.now.plan.now c.args.node c.args.times.now.sources)
