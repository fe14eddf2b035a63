use Rattle.std.proofs.Common.{refl}
use Rattle.std.proofs.lemmas.Result.{err_from_is_err_and}
use Rattle.mk_makefile.specs.Moments.{given}
use Rattle.mk_reader.proofs.StepLemmas.{here-given, then-fault, then-given}
use Rattle.mk_reader.proofs.reader.Reader.list_sources.Goals as goal

pub returns-in_err-list_names : goal.returns-in_err-list_names
returns-in_err-list_names g c =
    let p = err_from_is_err_and c.from_residual.result c.from_residual.ensures.1 in
    rw (p.1, p.2)
    (then-fault _ (λ answers found. given (record c.args.line.now { sources = found.0 }) found.1)
    c.in_err-list_names.ensures)

pub returns : goal.returns
returns g c =
    then-given _ (λ answers found. given (record c.args.line.now { sources = found.0 }) found.1)
    c.in_ok-list_names.ensures
    (here-given _ _ _ _ _ (λ answers. refl))
