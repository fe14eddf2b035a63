use Rattle.std.proofs.Common.{[], ◌∷◌, arith, length-append}
use Rattle.mk_pool.proofs.KeyLemmas.{texts_of-insert_key}
use Rattle.mk_pool.proofs.PoolLemmas.{AreDistinct-append}
use Rattle.mk_pool.proofs.pool.Pool.add.Goals as goal

pub returns-clause-texts : goal.returns-clause-texts
returns-clause-texts c =
    texts_of-insert_key c.in_ok-text.text _ _ _ _ c.self.view_is c.in_ok-text.ensures.items
    c.requires.absent c.in_ok-insert.ensures.keys

pub invariant_of-self-2 : goal.invariant_of-self-2
invariant_of-self-2 c =
    let old = c.args.self.now in
    let bytes = c.args.bytes.now in
    rw (returns-clause-texts c) (
      omega (arith, c.requires.room, length-append old (bytes ∷ [])),
      AreDistinct-append old bytes c.requires.absent c.len.ensures.distinct,
    )
