use Rattle.std.proofs.Common.{refl, arith}
use Rattle.std.proofs.lemmas.Grind.{common_steps}
use Rattle.mk_cond.specs.Walk.{behind_all}
use Rattle.mk_cond.proofs.WalkLemmas.{all_of-first, all_of-none, first-size}
use Rattle.mk_cond.proofs.walk.all_of.Goals as goal

pub returns-in_default-clause-same : goal.returns-in_default-clause-same
returns-in_default-clause-same c = λ ways.
    all_of-none c.args.conds.now (behind_all c.args.outer.now.items ways) c.in_default.len_below

pub returns-clause-same : goal.returns-clause-same
returns-clause-same c = λ ways.
    all_of-first c.args.outer.now.items _ c.args.conds.now c.first-item.result _ ways
    c.in_ok-push.ensures.items c.in-len1-up.len_at_least c.first-item.is (grind (arith, common_steps))

pub returns-clause-less : goal.returns-clause-less
returns-clause-less c =
    first-size c.args.outer.now.items _ _ c.args.conds.now c.first-item.result _
    c.in_ok-push.ensures.items refl c.in-len1-up.len_at_least c.first-item.is (grind (arith, common_steps))
