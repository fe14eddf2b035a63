use Rattle.std.proofs.Common.{◌+◌, [], drop, refl, ap, ◌∙◌}
use Rattle.std.proofs.lemmas.Result.{err_from_is_err_and}
use Rattle.mk_makefile.specs.Moments.{moment_of}
use Rattle.mk_makefile.specs.Wildcards.{all_paths}
use Rattle.mk_reader.proofs.StepLemmas.{drop-item, given-as, here-want, left-as, left-first, left-given, left-here}
use Rattle.mk_reader.proofs.StepLemmas.{left-on, then-fault}
use Rattle.mk_reader.proofs.reader.Reader.all_paths.Goals as goal

pub returns-in_err-paths : goal.returns-in_err-paths
returns-in_err-paths g c =
    let p = err_from_is_err_and c.from_residual.result c.from_residual.ensures.1 in
    rw (p.1, p.2) (here-want _ _ _ _)

pub loop-name-init : goal.loop-name-init
loop-name-init g c = left-here _ _ _ _ (λ answers. rw c.in_ok-paths.ensures.empty refl)

pub returns-in_err-push_paths : goal.returns-in_err-push_paths
returns-in_err-push_paths g c =
    let p = err_from_is_err_and c.from_residual-in_err-push_paths.result
    c.from_residual-in_err-push_paths.ensures.1 in
    let at = c.loop-name.name-index in
    let names = c.args.names.now in
    let x = c.loop-name.self in
    let here = drop-item names _ at c.name-item.result c.as_slice-name-items.ensures.value
    c.loop-name-test.true c.name-item.is in
    rw (p.1, p.2)
    (left-given _ c.loop-name.invariant
    (given-as _ _ _ _ _ _
    (λ answers. ap (λ l. all_paths answers c.loop-name.paths l
    (moment_of x.state.now x.order.now)) here)
    (then-fault _ (λ answers next. all_paths answers next.0 (drop (at + 1) names) next.1)
    c.in_err-push_paths.ensures)))

pub loop-name-preserved : goal.loop-name-preserved
loop-name-preserved g c =
    let at = c.loop-name.name-index in
    let names = c.args.names.now in
    let x = c.loop-name.self in
    let here = drop-item names _ at c.name-item.result c.as_slice-name-items.ensures.value
    c.loop-name-test.true c.name-item.is in
    left-on _ c.loop-name.invariant
    (left-as _ _ _
    (λ answers. ap (λ l. all_paths answers c.loop-name.paths l
    (moment_of x.state.now x.order.now)) here)
    (λ answers. refl)
    (left-first _ (λ answers next. all_paths answers next.0 (drop (at + 1) names) next.1)
    c.in_ok-push_paths.ensures))
