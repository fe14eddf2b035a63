use Rattle.std.proofs.Common.{◌∙◌, arith}
use Rattle.mk_sched.proofs.StartLemmas.{before_within}
use Rattle.mk_sched.proofs.start.followers_of.Goals as goal

pub follow-requires : goal.follow-requires
follow-requires c = record {
  within = before_within c.args.plan.now c.loop-n.n _ _ c.len.ensures.ordered
      (omega arith) c.loop-n.invariant.long
      (c.as_slice.ensures.value ∙ c.before-in-loop-n.ensures);
}
