use Rattle.std.proofs.lemmas.Result.{err_from_is_err_and}
use Rattle.mk_makefile.specs.Modes.{mode_with}
use Rattle.mk_reader.proofs.StepLemmas.{then-fault, then-given}
use Rattle.mk_reader.proofs.reader.Reader.read_mode.Goals as goal

pub returns-in_err-words : goal.returns-in_err-words
returns-in_err-words g c =
    let p = err_from_is_err_and c.from_residual.result c.from_residual.ensures.1 in
    rw (p.1, p.2)
    (then-fault _ (λ answers words. mode_with answers words.0 words.1) c.in_err-words.ensures)

pub returns : goal.returns
returns g c =
    then-given _ (λ answers words. mode_with answers words.0 words.1) c.in_ok-words.ensures
    c.mode_with.ensures
