use Rattle.std.proofs.Common.{refl}
use Rattle.std.proofs.lemmas.Result.{err_from_is_err_and}
use Rattle.mk_reader.proofs.StepLemmas.{given-as, here-want, here-wrong}
use Rattle.mk_reader.proofs.reader.Reader.turns_on.Goals as goal

pub returns-in_err-heading : goal.returns-in_err-heading
returns-in_err-heading g c =
    let p = err_from_is_err_and c.from_residual.result c.from_residual.ensures.1 in
    rw (p.1, p.2) (here-want _ _ _ _)

pub returns-in_default : goal.returns-in_default
returns-in_default g c =
    here-wrong _ _ _ _ _ (λ answers.
    rw (← c.argument_on.ensures, ← c.in_ok-heading.ensures, c.in_default.is) refl)

pub returns : goal.returns
returns g c =
    given-as _ _ _ _ _ _ (λ answers.
    rw (← c.argument_on.ensures, ← c.in_ok-heading.ensures, c.in-Some.is) refl) c.turns_of.ensures
