use Rattle.std.proofs.lemmas.Result.{err_from_is_err_and}
use Rattle.mk_makefile.specs.Values.{command_at, printed_by}
use Rattle.mk_reader.proofs.StepLemmas.{then-fault, then-given}
use Rattle.mk_reader.proofs.reader.Reader.run.Goals as goal

pub returns-in_err-exports : goal.returns-in_err-exports
returns-in_err-exports g c =
    let p = err_from_is_err_and c.from_residual.result c.from_residual.ensures.1 in
    rw (p.1, p.2)
    (then-fault _ (λ answers all. printed_by answers (command_at all.1 all.0 c.args.text) all.1)
    c.in_err-exports.ensures)

pub returns : goal.returns
returns g c =
    then-given _ (λ answers all. printed_by answers (command_at all.1 all.0 c.args.text) all.1)
    c.in_ok-exports.ensures c.run_with.ensures
