use Rattle.std.proofs.Common.{refl}
use Rattle.std.proofs.lemmas.Result.{err_from_is_err_and}
use Rattle.mk_reader.proofs.StepLemmas.{given-as, here-want}
use Rattle.mk_reader.proofs.reader.Reader.run_with.Goals as goal

pub returns-in_err-cmd : goal.returns-in_err-cmd
returns-in_err-cmd g c =
    let p = err_from_is_err_and c.from_residual.result c.from_residual.ensures.1 in
    rw (p.1, p.2) (here-want _ _ _ _)

pub returns : goal.returns
returns g c =
    given-as _ _ _ _ _ _ (λ answers. rw (c.in_ok-cmd.ensures, c.cwd.ensures.value) refl)
    c.printed.ensures
