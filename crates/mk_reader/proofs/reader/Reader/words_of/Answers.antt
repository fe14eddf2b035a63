use Rattle.std.proofs.Common.{refl}
use Rattle.std.proofs.lemmas.Result.{err_from_is_err_and}
use Rattle.mk_directive.specs.Words.{words_of}
use Rattle.mk_makefile.specs.Moments.{given}
use Rattle.mk_reader.proofs.StepLemmas.{here-given, here-want, then-fault, then-given}
use Rattle.mk_reader.proofs.reader.Reader.words_of.Goals as goal

pub returns-in_err-value : goal.returns-in_err-value
returns-in_err-value g c =
    let p = err_from_is_err_and c.from_residual.result c.from_residual.ensures.1 in
    rw (p.1, p.2) (then-fault _ (λ answers shown. given (words_of shown.0) shown.1) c.in_err-value.ensures)

pub returns-in_err-words : goal.returns-in_err-words
returns-in_err-words g c =
    let p = err_from_is_err_and c.from_residual-in_err-words.result
    c.from_residual-in_err-words.ensures.1 in
    rw (p.1, p.2)
    (then-given _ (λ answers shown. given (words_of shown.0) shown.1) c.in_ok-value.ensures
    (here-want _ _ _ _))

pub returns : goal.returns
returns g c =
    then-given _ (λ answers shown. given (words_of shown.0) shown.1) c.in_ok-value.ensures
    (here-given _ _ _ _ _ (λ answers. rw (← c.bytes.ensures.value, ← c.in_ok-words.ensures) refl))
