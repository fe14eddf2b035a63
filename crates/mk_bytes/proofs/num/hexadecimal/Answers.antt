use Rattle.std.proofs.Common.{arith}
use Rattle.mk_bytes.proofs.NumberLemmas.{hexadecimal_is_small}
use Rattle.mk_bytes.proofs.num.hexadecimal.Goals as goal

pub overflow_mul-result : goal.overflow_mul-result
overflow_mul-result c =
    let small = hexadecimal_is_small _ _ c.in_ok-value.ensures.small (omega arith) in omega arith

pub returns-clause-small : goal.returns-clause-small
returns-clause-small c = hexadecimal_is_small _ _ c.in_ok-value.ensures.small (omega arith)
