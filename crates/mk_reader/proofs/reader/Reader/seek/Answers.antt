use Rattle.std.proofs.Common.{◌+◌, drop, refl, ap}
use Rattle.std.proofs.lemmas.Result.{err_from_is_err_and}
use Rattle.mk_makefile.specs.Inclusions.{or_next, sought}
use Rattle.mk_makefile.specs.Moments.{moment_of}
use Rattle.mk_reader.proofs.StepLemmas.{drop-item, given-as, here-given, left-as, left-first, left-given}
use Rattle.mk_reader.proofs.StepLemmas.{left-here, left-on, then-fault, then-given}
use Rattle.mk_reader.proofs.reader.Reader.seek.Goals as goal

pub loop-path-init : goal.loop-path-init
loop-path-init g c = left-here _ _ _ _ (λ answers. refl)

pub returns-in_err-file : goal.returns-in_err-file
returns-in_err-file g c =
    let p = err_from_is_err_and c.from_residual.result c.from_residual.ensures.1 in
    let at = c.loop-path.path-index in
    let places = c.args.places.now in
    let x = c.loop-path.self in
    let here = drop-item places _ at c.path-item.result c.as_slice-path-items.ensures.value
    c.loop-path-test.true c.path-item.is in
    rw (p.1, p.2)
    (left-given _ c.loop-path.invariant
    (given-as _ _ _ _ _ _
    (λ answers. ap (λ l. sought answers l (moment_of x.state.now x.order.now)) here)
    (then-fault _ (λ answers. or_next (sought answers (drop (at + 1) places)))
    c.in_err-file.ensures)))

pub returns-in-Some : goal.returns-in-Some
returns-in-Some g c =
    let at = c.loop-path.path-index in
    let places = c.args.places.now in
    let x = c.loop-path.self in
    let here = drop-item places _ at c.path-item.result c.as_slice-path-items.ensures.value
    c.loop-path-test.true c.path-item.is in
    left-given _ c.loop-path.invariant
    (given-as _ _ _ _ _ _
    (λ answers. ap (λ l. sought answers l (moment_of x.state.now x.order.now)) here)
    (then-given _ (λ answers. or_next (sought answers (drop (at + 1) places)))
    c.in_ok-file.ensures
    (here-given _ _ _ _ _ (λ answers. rw c.in-Some.is refl))))

pub loop-path-preserved : goal.loop-path-preserved
loop-path-preserved g c =
    let at = c.loop-path.path-index in
    let places = c.args.places.now in
    let x = c.loop-path.self in
    let here = drop-item places _ at c.path-item.result c.as_slice-path-items.ensures.value
    c.loop-path-test.true c.path-item.is in
    left-on _ c.loop-path.invariant
    (left-as _ _ _
    (λ answers. ap (λ l. sought answers l (moment_of x.state.now x.order.now)) here)
    (λ answers. rw c.in_default.is refl)
    (left-first _ (λ answers. or_next (sought answers (drop (at + 1) places)))
    c.in_ok-file.ensures))
