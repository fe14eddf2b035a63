use Rattle.std.proofs.lemmas.Result.{err_from_is_err_and}
use Rattle.mk_driver.proofs.building.make_all.Goals as goal

pub returns-in_err-make_next-clause-halted : goal.returns-in_err-make_next-clause-halted
returns-in_err-make_next-clause-halted g c =
    let p = err_from_is_err_and c.from_residual.result c.from_residual.ensures.1 in
    rw (p.1, p.2) (λ first at.
    c.in_err-make_next.ensures.halted first (c.nodes.invariant.goes first at))
