use Rattle.std.proofs.lemmas.Result.{err_from_is_err_and}
use Rattle.mk_makefile.specs.Moments.{stands}
use Rattle.mk_makefile.specs.Variables.{assigned_at, on_one_line}
use Rattle.mk_reader.proofs.StepLemmas.{here-want, then-fault, then-given}
use Rattle.mk_reader.proofs.reader.Reader.set_output.Goals as goal

pub returns-in_err-output : goal.returns-in_err-output
returns-in_err-output g c =
    let p = err_from_is_err_and c.from_residual.result c.from_residual.ensures.1 in
    rw (p.1, p.2) (then-fault _ (λ answers found. stands (assigned_at found.1 c.args.class c.args.name.now (on_one_line found.0))) c.in_err-output.ensures)

pub returns-in_err-line : goal.returns-in_err-line
returns-in_err-line g c =
    let p = err_from_is_err_and c.from_residual-in_err-line.result c.from_residual-in_err-line.ensures.1 in
    rw (p.1, p.2) (then-given _ (λ answers found. stands (assigned_at found.1 c.args.class c.args.name.now (on_one_line found.0))) c.in_ok-output.ensures (here-want _ _ _ _))

pub returns : goal.returns
returns g c =
    then-given _ (λ answers found. stands (assigned_at found.1 c.args.class c.args.name.now (on_one_line found.0))) c.in_ok-output.ensures
    (rw (← c.bytes.ensures.value, ← c.in_ok-line.ensures, ← c.bytes-2.ensures.value)
    c.set.ensures)
