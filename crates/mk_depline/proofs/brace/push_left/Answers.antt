use Rattle.mk_depline.proofs.BraceLemmas.{pending-push, placed-push, steps-push}
use Rattle.mk_depline.proofs.brace.push_left.Goals as goal

pub returns-in_ok-push_pending-in-Some-clause-words
    : goal.returns-in_ok-push_pending-in-Some-clause-words
returns-in_ok-push_pending-in-Some-clause-words c =
    rw (c.in-Some.is, c.in_ok-push_pending-in-Some.ensures)
    (pending-push c.args.word.now c.args.waiting.now.items c.in-Some.words)

pub returns-in_ok-push_pending-in-Some-clause-steps
    : goal.returns-in_ok-push_pending-in-Some-clause-steps
returns-in_ok-push_pending-in-Some-clause-steps c =
    rw (c.in-Some.is, c.in_ok-push_pending-in-Some.ensures)
    (steps-push c.args.word.now c.args.waiting.now.items c.in-Some.words)

pub returns-in_ok-push_pending-in-Some-clause-placed
    : goal.returns-in_ok-push_pending-in-Some-clause-placed
returns-in_ok-push_pending-in-Some-clause-placed c =
    rw c.in_ok-push_pending-in-Some.ensures
    (placed-push c.args.word.now c.args.waiting.now.items c.in-Some.words c.requires.waiting
    (rw c.in-Some.is at c.requires.left))
