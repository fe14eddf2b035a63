use Rattle.std.proofs.Common.{refl}
use Rattle.std.proofs.lemmas.Result.{err_from_is_err_and}
use Rattle.mk_makefile.specs.Moments.{stands}
use Rattle.mk_makefile.specs.Orders.{with_targets}
use Rattle.mk_reader.proofs.StepLemmas.{given-as, here-want, then-fault, then-given}
use Rattle.mk_reader.proofs.reader.Reader.apply_order.Goals as goal

pub returns-in_err-apply_all : goal.returns-in_err-apply_all
returns-in_err-apply_all g c =
    let p = err_from_is_err_and c.from_residual.result c.from_residual.ensures.1 in
    rw (p.1, p.2) (then-fault _ (λ answers next. stands (with_targets next.1)) c.in_err-apply_all.ensures)

pub returns-in_err-targets : goal.returns-in_err-targets
returns-in_err-targets g c =
    let p = err_from_is_err_and c.from_residual-in_err-targets.result c.from_residual-in_err-targets.ensures.1 in
    rw (p.1, p.2) (then-given _ (λ answers next. stands (with_targets next.1)) c.in_ok-apply_all.ensures (here-want _ _ _ _))

pub returns : goal.returns
returns g c =
    then-given _ (λ answers next. stands (with_targets next.1)) c.in_ok-apply_all.ensures
    (given-as _ _ _ _ _ _ (λ answers.
    rw (c.in_ok-apply_all.ensures.leads.order, c.bytes.ensures.value, c.in_ok-targets.ensures) refl) c.set.ensures)
