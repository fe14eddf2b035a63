use Rattle.std.proofs.Common.{refl}
use Rattle.mk_cond.proofs.walk.left_behind.Goals as goal

pub returns-in-All-2-clause-same : goal.returns-in-All-2-clause-same
returns-in-All-2-clause-same c = λ ways. rw (c.in-All-2.is, c.if-truth.false) refl
