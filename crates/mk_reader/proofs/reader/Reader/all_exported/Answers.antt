use Rattle.std.proofs.Common.{◌≡◌, ◌+◌, ◌++◌, [], ◌∷◌, drop, take, length, refl, ap, sym, ◌∙◌, arith}
use Rattle.std.proofs.lemmas.Grind.{common_steps}
use Rattle.std.proofs.lemmas.List.{map-append, take_more}
use Rattle.std.proofs.lemmas.Result.{err_from_is_err_and}
use Rattle.mk_export.specs.Names.{names_of}
use Rattle.mk_makefile.specs.Moments.{moment_of}
use Rattle.mk_makefile.specs.Values.{all_exported}
use Rattle.mk_reader.proofs.StepLemmas.{drop-item, given-as, here-want, left-as, left-first, left-given, left-here}
use Rattle.mk_reader.proofs.StepLemmas.{left-on, then-fault, then-given}
use Rattle.mk_reader.proofs.reader.Reader.all_exported.Goals as goal

pub returns-in_err-pairs-clause-pairs : goal.returns-in_err-pairs-clause-pairs
returns-in_err-pairs-clause-pairs g c =
    let p = err_from_is_err_and c.from_residual.result c.from_residual.ensures.1 in
    rw (p.1, p.2) (here-want _ _ _ _)

pub loop-name-init : goal.loop-name-init
loop-name-init g c = record {
  left = left-here _ _ _ _ (λ answers. rw c.in_ok-pairs.ensures.empty refl);
  named = rw c.in_ok-pairs.ensures.empty refl;
}

pub returns-in_err-exported-clause-pairs : goal.returns-in_err-exported-clause-pairs
returns-in_err-exported-clause-pairs g c =
    let p = err_from_is_err_and c.from_residual-in_err-exported.result
    c.from_residual-in_err-exported.ensures.1 in
    let at = c.loop-name.name-index in
    let names = c.args.names.now in
    let x = c.loop-name.self in
    let here = drop-item names _ at c.name-item.result c.as_slice-name-items.ensures.value
    c.loop-name-test.true c.name-item.is in
    rw (p.1, p.2)
    (left-given _ c.loop-name.invariant.left
    (given-as _ _ _ _ _ _
    (λ answers. ap (λ l. all_exported answers c.loop-name.pairs l
    (moment_of x.state.now x.order.now)) here)
    (then-fault _ (λ answers one.
    all_exported answers (c.loop-name.pairs ++ one.0 ∷ []) (drop (at + 1) names) one.1)
    c.in_err-exported.ensures.pair)))

pub returns-in_err-push-clause-pairs : goal.returns-in_err-push-clause-pairs
returns-in_err-push-clause-pairs g c =
    let p = err_from_is_err_and c.from_residual-in_err-push.result
    c.from_residual-in_err-push.ensures.1 in
    let at = c.loop-name.name-index in
    let names = c.args.names.now in
    let x = c.loop-name.self in
    let here = drop-item names _ at c.name-item.result c.as_slice-name-items.ensures.value
    c.loop-name-test.true c.name-item.is in
    rw (p.1, p.2)
    (left-given _ c.loop-name.invariant.left
    (given-as _ _ _ _ _ _
    (λ answers. ap (λ l. all_exported answers c.loop-name.pairs l
    (moment_of x.state.now x.order.now)) here)
    (then-given _ (λ answers one.
    all_exported answers (c.loop-name.pairs ++ one.0 ∷ []) (drop (at + 1) names) one.1)
    c.in_ok-exported.ensures.pair (here-want _ _ _ _))))

pub loop-name-preserved : goal.loop-name-preserved
loop-name-preserved g c =
    let at = c.loop-name.name-index in
    let names = c.args.names.now in
    let x = c.loop-name.self in
    let here = drop-item names _ at c.name-item.result c.as_slice-name-items.ensures.value
    c.loop-name-test.true c.name-item.is in
    record {
      left = left-on _ c.loop-name.invariant.left
          (left-as _ _ _
          (λ answers. ap (λ l. all_exported answers c.loop-name.pairs l
          (moment_of x.state.now x.order.now)) here)
          (λ answers. rw c.in_ok-push.ensures.ok refl)
          (left-first _ (λ answers one.
          all_exported answers (c.loop-name.pairs ++ one.0 ∷ []) (drop (at + 1) names) one.1)
          c.in_ok-exported.ensures.pair));
      named = rw (
        c.in_ok-push.ensures.ok,
        map-append,
        c.loop-name.invariant.named,
        c.in_ok-exported.ensures.named,
      ) (grind (arith, common_steps));
    }
