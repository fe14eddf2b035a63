use Rattle.std.proofs.Common.{refl}
use Rattle.std.proofs.lemmas.Result.{err_from_is_err_and}
use Rattle.mk_makefile.specs.Inclusions.{required}
use Rattle.mk_reader.proofs.FileLemmas.{gave-required}
use Rattle.mk_reader.proofs.StepLemmas.{given-as, here-want, here-wrong, then-fault, then-given}
use Rattle.mk_reader.proofs.reader.Reader.find.Goals as goal

pub returns-in_default : goal.returns-in_default
returns-in_default g c =
    here-wrong _ _ _ _ _ (λ answers. rw (← c.wanted_by.ensures, c.in_default.is) refl)

pub returns-in_err-places : goal.returns-in_err-places
returns-in_err-places g c =
    let p = err_from_is_err_and c.from_residual.result c.from_residual.ensures.1 in
    rw (p.1, p.2) (here-want _ _ _ _)

pub returns-in_err-found : goal.returns-in_err-found
returns-in_err-found g c =
    let p = err_from_is_err_and c.from_residual-in_err-found.result c.from_residual-in_err-found.ensures.1 in
    rw (p.1, p.2)
    (given-as _ _ _ _ _ _ (λ answers.
    rw (← c.wanted_by.ensures, c.in-Some.is, c.in_ok-places.ensures, c.cwd-cwd.ensures.value) refl)
    (then-fault _ (λ answers. required c.args.optional c.in-Some.wanted.name.now)
    c.in_err-found.ensures))

pub returns : goal.returns
returns g c =
    given-as _ _ _ _ _ _ (λ answers.
    rw (← c.wanted_by.ensures, c.in-Some.is, c.in_ok-places.ensures, c.cwd-cwd.ensures.value) refl)
    (then-given _ (λ answers. required c.args.optional c.in-Some.wanted.name.now)
    c.in_ok-found.ensures
    (gave-required _ _ _ (λ file. refl) _ _ _ _ c.required.ensures))
