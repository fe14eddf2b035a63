use Rattle.std.proofs.lemmas.Result.{err_from_is_err_and}
use Rattle.mk_makefile.specs.Modes.{mode_exporting}
use Rattle.mk_reader.proofs.StepLemmas.{then-fault, then-given}
use Rattle.mk_reader.proofs.reader.Reader.mode_with.Goals as goal

pub returns-in_err-ignored : goal.returns-in_err-ignored
returns-in_err-ignored g c =
    let p = err_from_is_err_and c.from_residual.result c.from_residual.ensures.1 in
    rw (p.1, p.2)
    (then-fault _ (λ answers ignored. mode_exporting answers c.args.words.now ignored.0 ignored.1)
    c.in_err-ignored.ensures)

pub returns : goal.returns
returns g c =
    then-given _ (λ answers ignored. mode_exporting answers c.args.words.now ignored.0 ignored.1)
    c.in_ok-ignored.ensures c.mode_exporting.ensures
