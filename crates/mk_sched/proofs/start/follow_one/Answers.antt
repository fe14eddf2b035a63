use Rattle.mk_sched.proofs.StartLemmas.{followed}
use Rattle.mk_sched.proofs.start.follow_one.Goals as goal

pub returns-clause-ok : goal.returns-clause-ok
returns-clause-ok c =
    followed c.args.followers.now.items c.args.one c.args.n c.index_mut.result.now c.push.new.self
    c.requires.within c.index_mut.ensures.value c.in_ok-push.ensures.ok
