use Rattle.std.proofs.Common.{refl}
use Rattle.std.proofs.lemmas.Result.{err_from_is_err_and}
use Rattle.mk_reader.proofs.StepLemmas.{changed-given, changed-want}
use Rattle.mk_reader.proofs.reader.Reader.default.Goals as goal

pub returns-in_err-set_default : goal.returns-in_err-set_default
returns-in_err-set_default g c =
    let p = err_from_is_err_and c.from_residual.result c.from_residual.ensures.1 in
    rw (p.1, p.2) (changed-want _ _ _ (record { world = refl; err = refl; state = refl; order = refl; same = refl }) _ _ refl refl)

pub returns : goal.returns
returns g c =
    changed-given _ _ _ (record { world = refl; err = refl; state = refl; order = refl; same = refl }) _ _ refl refl _ (λ answers. rw c.in_ok-set_default.ensures.ok refl)
