use Rattle.std.proofs.lemmas.Result.{err_from_is_err_and}
use Rattle.mk_driver.proofs.building.make_next.Goals as goal

pub returns-in_err-decide-clause-halted : goal.returns-in_err-decide-clause-halted
returns-in_err-decide-clause-halted g c =
    let p = err_from_is_err_and c.from_residual-in_err-decide.result
    c.from_residual-in_err-decide.ensures.1 in
    rw (p.1, p.2) (λ first at.
    c.in_err-decide.ensures.halted first (g.S.Sink.held c.take_in_ready.new.out)
    (c.in_ok-take_in_ready.ensures.goes first at))
