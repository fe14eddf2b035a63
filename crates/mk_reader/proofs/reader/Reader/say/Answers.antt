use Rattle.std.proofs.Common.{refl}
use Rattle.std.proofs.lemmas.Result.{err_from_is_err_and}
use Rattle.mk_reader.proofs.GaveLemmas.{gave-cut, gave-said}
use Rattle.mk_reader.proofs.reader.Reader.say.Goals as goal

pub returns-in_err-write_message : goal.returns-in_err-write_message
returns-in_err-write_message g c =
    let p = err_from_is_err_and c.from_residual.result c.from_residual.ensures.1 in
    rw (p.1, p.2)
    (gave-cut _ _ _ refl refl refl refl refl refl _ _ (λ answers. refl) _
    c.in_err-write_message.ensures.cut c.in_err-write_message.ensures.cause)

pub returns : goal.returns
returns g c =
    gave-said _ _ _ refl refl refl refl refl refl _ _ (λ answers. refl) _
    c.in_ok-write_message.ensures.done c.in_ok-write_message.ensures.cause
