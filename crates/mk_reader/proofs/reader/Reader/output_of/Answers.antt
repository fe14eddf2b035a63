use Rattle.std.proofs.lemmas.Result.{err_from_is_err_and}
use Rattle.mk_makefile.specs.Values.{output}
use Rattle.mk_reader.proofs.StepLemmas.{then-fault, then-given}
use Rattle.mk_reader.proofs.reader.Reader.output_of.Goals as goal

pub returns-in_err-command : goal.returns-in_err-command
returns-in_err-command g c =
    let p = err_from_is_err_and c.from_residual.result c.from_residual.ensures.1 in
    rw (p.1, p.2) (then-fault _ (λ answers command. output answers command.0 command.1) c.in_err-command.ensures)

pub returns : goal.returns
returns g c =
    then-given _ (λ answers command. output answers command.0 command.1) c.in_ok-command.ensures c.run.ensures
