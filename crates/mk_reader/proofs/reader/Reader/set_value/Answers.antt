use Rattle.std.proofs.lemmas.Result.{err_from_is_err_and}
use Rattle.mk_makefile.specs.Moments.{stands}
use Rattle.mk_makefile.specs.Variables.{assigned_at}
use Rattle.mk_reader.proofs.StepLemmas.{then-fault, then-given}
use Rattle.mk_reader.proofs.reader.Reader.set_value.Goals as goal

pub returns-in_err-value : goal.returns-in_err-value
returns-in_err-value g c =
    let p = err_from_is_err_and c.from_residual.result c.from_residual.ensures.1 in
    rw (p.1, p.2) (then-fault _ (λ answers now. stands (assigned_at now.1 c.args.class c.args.name.now now.0)) c.in_err-value.ensures)

pub returns : goal.returns
returns g c =
    then-given _ (λ answers now. stands (assigned_at now.1 c.args.class c.args.name.now now.0)) c.in_ok-value.ensures
    (rw (← c.bytes.ensures.value) c.set.ensures)
