use Rattle.std.proofs.Common.{refl}
use Rattle.std.proofs.lemmas.Result.{err_from_is_err_and}
use Rattle.mk_makefile.specs.Moments.{given}
use Rattle.mk_reader.proofs.StepLemmas.{here-given, here-want, then-fault, then-given}
use Rattle.mk_reader.proofs.reader.Reader.exported.Goals as goal

pub returns-in_err-name-clause-pair : goal.returns-in_err-name-clause-pair
returns-in_err-name-clause-pair g c =
    let p = err_from_is_err_and c.from_residual.result c.from_residual.ensures.1 in
    rw (p.1, p.2) (here-want _ _ _ _)

pub returns-in_err-reference-clause-pair : goal.returns-in_err-reference-clause-pair
returns-in_err-reference-clause-pair g c =
    let p = err_from_is_err_and c.from_residual-in_err-reference.result
    c.from_residual-in_err-reference.ensures.1 in
    rw (p.1, p.2) (here-want _ _ _ _)

pub returns-in_err-value-clause-pair : goal.returns-in_err-value-clause-pair
returns-in_err-value-clause-pair g c =
    let p = err_from_is_err_and c.from_residual-in_err-value.result
    c.from_residual-in_err-value.ensures.1 in
    rw (p.1, p.2)
    (then-fault _ (λ answers shown. given (record { name = c.args.name.now; value = shown.0 }) shown.1)
    (rw (c.bytes-2.ensures.value, c.in_ok-reference.ensures, c.bytes.ensures.value, c.in_ok-name.ensures)
    at c.in_err-value.ensures))

pub returns-clause-pair : goal.returns-clause-pair
returns-clause-pair g c =
    then-given _ (λ answers shown. given (record { name = c.args.name.now; value = shown.0 }) shown.1)
    (rw (c.bytes-2.ensures.value, c.in_ok-reference.ensures, c.bytes.ensures.value, c.in_ok-name.ensures)
    at c.in_ok-value.ensures)
    (here-given _ _ _ _ _ (λ answers. rw c.in_ok-name.ensures refl))
