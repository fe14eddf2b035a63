use Rattle.std.proofs.Common.{sym, arith}
use Rattle.mk_plan.proofs.OodateLemmas.{plain-other}
use Rattle.mk_plan.proofs.oodate.is_plain_oodate.Goals as goal

pub returns-in_default-2 : goal.returns-in_default-2
returns-in_default-2 c =
    rw (← c.as_slice.ensures.value) (sym (plain-other c.as_slice.result.now (λ one. omega arith)))
