use Rattle.std.proofs.Common.{refl}
use Rattle.std.proofs.lemmas.Result.{err_from_is_err_and}
use Rattle.mk_reader.proofs.StepLemmas.{changed-given, changed-want}
use Rattle.mk_reader.proofs.reader.Reader.undefine.Goals as goal

pub returns-in_err-names : goal.returns-in_err-names
returns-in_err-names g c =
    let p = err_from_is_err_and c.from_residual.result c.from_residual.ensures.1 in
    rw (p.1, p.2) (changed-want _ _ _ (record { world = refl; err = refl; state = refl; order = refl; same = refl }) _ _ refl refl)

pub returns : goal.returns
returns g c =
    changed-given _ _ _ (record { world = refl; err = refl; state = refl; order = refl; same = refl }) _ _ refl refl _ (λ answers. rw (c.remove_all.ensures, c.as_slice.ensures.value, c.in_ok-names.ensures) refl)
