use Rattle.mk_pool.proofs.KeyLemmas.{slice_get-texts_of}
use Rattle.mk_pool.proofs.PoolLemmas.{name_of-slice_get}
use Rattle.mk_pool.proofs.pool.Pool.text.Goals as goal

pub returns-clause-only : goal.returns-clause-only
returns-clause-only c =
    let distinct = rw c.self.view_is at c.self.invariant.1 in
    let is = rw c.as_slice.ensures.keys at c.index-as_slice-name.is in
    name_of-slice_get c.args.self.now c.args.name.0 c.as_slice-2.result.now distinct
    (slice_get-texts_of _ _ _ _ _ c.self.view_is c.requires is c.as_slice-2.ensures.value)
