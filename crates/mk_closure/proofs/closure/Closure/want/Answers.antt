use Rattle.std.proofs.lemmas.Result.{err_from_is_err_and}
use Rattle.std.proofs.Common.{Err}
use Rattle.mk_closure.proofs.WalkLemmas.{HasCause-own}
use Rattle.mk_closure.proofs.closure.Closure.want.Goals as goal

pub returns-in_err-n-clause-cause : goal.returns-in_err-n-clause-cause
returns-in_err-n-clause-cause g c =
    let p = err_from_is_err_and c.from_residual.result c.from_residual.ensures.1 in
    rw (p.1, p.2) (HasCause-own (Err c.in_err-n.field-0.0) _ c.in_err-n.ensures.own)
