use Rattle.std.proofs.Common.{sym}
use Rattle.mk_pool.proofs.PoolLemmas.{name_of-append}
use Rattle.mk_pool.proofs.pool.Pool.intern.Goals as goal

pub returns-clause-name : goal.returns-clause-name
returns-clause-name c =
    name_of-append c.args.self.now _ c.args.bytes.now _ (sym c.in_default.ensures.held)
    c.in_ok-add.ensures.texts c.in_ok-add.ensures.name
