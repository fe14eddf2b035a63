use Rattle.std.proofs.lemmas.Result.{err_from_is_err_and}
use Rattle.mk_driver.proofs.building.take_in_ready.Goals as goal

pub returns-in_err-take_in-clause-halted : goal.returns-in_err-take_in-clause-halted
returns-in_err-take_in-clause-halted g c =
    let p = err_from_is_err_and c.from_residual.result c.from_residual.ensures.1 in
    rw (p.1, p.2) (λ first at.
    c.in_err-take_in.ensures.halted first (c.waits.invariant.goes first at))
