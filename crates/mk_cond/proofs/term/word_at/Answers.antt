use Rattle.std.proofs.Common.{rules}
use Rattle.mk_cond.proofs.Words.{some_word-some}
use Rattle.mk_cond.proofs.term.word_at.Goals as goal

pub returns-clause-gives : goal.returns-clause-gives
returns-clause-gives c =
    rw c.in_ok-tree.ensures.exact
    (some_word-some c.args.total c.args.text.now c.in_ok-tree.rest.now c.in_ok-tree.tree
    (search rules))
