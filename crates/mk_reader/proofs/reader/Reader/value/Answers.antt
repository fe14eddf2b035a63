use Rattle.std.proofs.Common.{refl}
use Rattle.std.proofs.lemmas.Result.{err_from_is_err_and}
use Rattle.mk_reader.proofs.GaveLemmas.{gave-evaluated, gave-fault}
use Rattle.mk_reader.proofs.reader.Reader.value.Goals as goal

pub returns-in_err-value : goal.returns-in_err-value
returns-in_err-value g c =
    let p = err_from_is_err_and c.from_residual.result c.from_residual.ensures.1 in
    rw (p.1, p.2)
    (gave-fault _ _ _ (record { world = refl; err = refl; state = refl; order = refl; same = refl })
    _ _ _ (λ answers. refl) _ c.in_err-value.ensures.evaluated c.in_err-value.ensures.cause)

pub returns : goal.returns
returns g c =
    gave-evaluated _ _ _ (record { world = refl; err = refl; state = refl; order = refl; same = refl })
    _ _ _ (λ answers. refl) _ c.in_ok-value.ensures.evaluated c.in_ok-value.ensures.cause
