use Rattle.std.proofs.lemmas.Result.{err_from_is_err_and}
use Rattle.mk_modes.proofs.PrintLemmas.{Printed-fault, Printed-cut_line}
use Rattle.mk_modes.proofs.print.print_one.Goals as goal

pub returns-in_err-write_value-in-Ok-clause-end : goal.returns-in_err-write_value-in-Ok-clause-end
returns-in_err-write_value-in-Ok-clause-end g c =
    let p = err_from_is_err_and c.from_residual.result c.from_residual.ensures.1 in
    rw (p.1, p.2)
    (λ answers by others.
    Printed-cut_line c.args.i c.bytes.result.now (g.F.Facts.asked c.shown.new.facts) _ others _ _
    (rw (← c.bytes.ensures.value) at (c.in-Ok.ensures.value answers by))
    c.in_err-write_value-in-Ok.ensures.cut)

pub returns-in-Err-clause-end : goal.returns-in-Err-clause-end
returns-in-Err-clause-end g c =
    λ answers by others. rw c.print_fault.ensures
    (Printed-fault c.args.i c.in-Err.fault _ others _ (c.in-Err.ensures.value answers by))
