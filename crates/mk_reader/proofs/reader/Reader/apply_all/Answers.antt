use Rattle.std.proofs.Common.{◌+◌, drop, refl, ap}
use Rattle.std.proofs.lemmas.Result.{err_from_is_err_and}
use Rattle.mk_makefile.specs.Moments.{moment_of}
use Rattle.mk_makefile.specs.Orders.{all_set}
use Rattle.mk_reader.proofs.StepLemmas.{drop-item, given-as, left-as, left-first, left-given, left-here}
use Rattle.mk_reader.proofs.StepLemmas.{left-on, then-fault}
use Rattle.mk_reader.proofs.reader.Reader.apply_all.Goals as goal

pub loop-set-init : goal.loop-set-init
loop-set-init g c = left-here _ _ _ _ (λ answers. refl)

pub returns-in_err-apply : goal.returns-in_err-apply
returns-in_err-apply g c =
    let p = err_from_is_err_and c.from_residual.result c.from_residual.ensures.1 in
    let at = c.loop-set.set-index in
    let sets = c.args.sets.now in
    let x = c.loop-set.self in
    let here = drop-item sets _ at c.set-item.result c.as_slice-set-items.ensures.value
    c.loop-set-test.true c.set-item.is in
    rw (p.1, p.2)
    (left-given _ c.loop-set.invariant
    (given-as _ _ _ _ _ _
    (λ answers. ap (λ l. all_set answers l (moment_of x.state.now x.order.now)) here)
    (then-fault _ (λ answers next. all_set answers (drop (at + 1) sets) next.1)
    c.in_err-apply.ensures)))

pub loop-set-preserved : goal.loop-set-preserved
loop-set-preserved g c =
    let at = c.loop-set.set-index in
    let sets = c.args.sets.now in
    let x = c.loop-set.self in
    let here = drop-item sets _ at c.set-item.result c.as_slice-set-items.ensures.value
    c.loop-set-test.true c.set-item.is in
    left-on _ c.loop-set.invariant
    (left-as _ _ _
    (λ answers. ap (λ l. all_set answers l (moment_of x.state.now x.order.now)) here)
    (λ answers. refl)
    (left-first _ (λ answers next. all_set answers (drop (at + 1) sets) next.1)
    c.in_ok-apply.ensures))
