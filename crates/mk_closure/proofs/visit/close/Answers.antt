use Rattle.std.proofs.lemmas.Result.{err_from_is_err_and}
use Rattle.mk_closure.proofs.visit.close.Goals as goal

pub returns-in_err-want_all-clause-refused : goal.returns-in_err-want_all-clause-refused
returns-in_err-want_all-clause-refused g c =
    let p = err_from_is_err_and c.from_residual-in_err-want_all.result
    c.from_residual-in_err-want_all.ensures.1 in
    rw (p.1, p.2, ← c.in_ok-rules.ensures.seeking, ← c.in_ok-closure.ensures)
    c.in_err-want_all.ensures.refused
