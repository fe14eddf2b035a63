use Rattle.std.proofs.lemmas.Result.{err_from_is_err_and}
use Rattle.mk_directive.specs.Words.{words_of}
use Rattle.mk_makefile.specs.Exports.{unexported_at}
use Rattle.mk_reader.proofs.StepLemmas.{then-fault, then-given}
use Rattle.mk_reader.proofs.reader.Reader.unexport.Goals as goal

pub returns-in_err-shown : goal.returns-in_err-shown
returns-in_err-shown g c =
    let p = err_from_is_err_and c.from_residual.result c.from_residual.ensures.1 in
    rw (p.1, p.2)
    (then-fault _ (λ answers shown. unexported_at (words_of shown.0) shown.1) c.in_err-shown.ensures)

pub returns : goal.returns
returns g c =
    then-given _ (λ answers shown. unexported_at (words_of shown.0) shown.1) c.in_ok-shown.ensures
    (rw (← c.bytes.ensures.value) c.unexport_words.ensures)
