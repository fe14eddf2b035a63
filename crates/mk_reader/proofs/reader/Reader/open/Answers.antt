use Rattle.std.proofs.Common.{refl}
use Rattle.std.proofs.lemmas.Result.{err_from_is_err_and}
use Rattle.mk_makefile.specs.Inclusions.{opened}
use Rattle.mk_reader.proofs.StepLemmas.{here-given, here-want, then-fault, then-given}
use Rattle.mk_reader.proofs.reader.Reader.open.Goals as goal

pub returns-in_err-name : goal.returns-in_err-name
returns-in_err-name g c =
    let p = err_from_is_err_and c.from_residual.result c.from_residual.ensures.1 in
    rw (p.1, p.2) (here-want _ _ _ _)

pub returns-in_err-text : goal.returns-in_err-text
returns-in_err-text g c =
    let p = err_from_is_err_and c.from_residual-in_err-text.result c.from_residual-in_err-text.ensures.1 in
    rw (p.1, p.2) (then-fault _ (λ answers found. opened c.args.path.now found) c.in_err-text.ensures)

pub returns-in-Some : goal.returns-in-Some
returns-in-Some g c =
    then-given _ (λ answers found. opened c.args.path.now found) c.in_ok-text.ensures
    (here-given _ _ _ _ _ (λ answers. rw (c.in-Some.is, c.in_ok-name.ensures) refl))

pub returns-in-None : goal.returns-in-None
returns-in-None g c =
    then-given _ (λ answers found. opened c.args.path.now found) c.in_ok-text.ensures
    (here-given _ _ _ _ _ (λ answers. rw c.in-None.is refl))
