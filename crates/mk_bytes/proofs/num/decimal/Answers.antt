use Rattle.std.proofs.Common.{arith}
use Rattle.mk_bytes.proofs.NumberLemmas.{decimal_is_small}
use Rattle.mk_bytes.proofs.num.decimal.Goals as goal

pub overflow_add-result : goal.overflow_add-result
overflow_add-result c =
    let small = decimal_is_small _ _ _ _ c.in_ok-whole.ensures.small (omega arith)
    c.in_ok-value.ensures.small (omega arith)
    in
    rw c.pow-below.ensures (omega arith)

pub returns-clause-small : goal.returns-clause-small
returns-clause-small c =
    rw c.pow-below.ensures (decimal_is_small _ _ _ _ c.in_ok-whole.ensures.small (omega arith)
    c.in_ok-value.ensures.small (omega arith))
