use Rattle.std.proofs.Common.{◌≡◌, ◌∙◌, ◌+◌, [], ◌∷◌, ◌++◌, drop, get_or, map, ap, sym, append_assoc, arith}
use Rattle.std.proofs.lemmas.Grind.{common_steps}
use Rattle.mk_decision.specs.Ages as spec
use Rattle.mk_decision.proofs.age.source_ages.Goals as goal

pub loop-place-preserved : goal.loop-place-preserved
loop-place-preserved c =
    let l = c.loop-place in
    let i = l.place-index in
    let items = c.as_slice-place-items.result.now in
    let place = get_or items i 0 in
    let age = spec.age c.args.plan.now c.args.seen.now in
    let are : drop i items ≡ place ∷ drop (i + 1) items = grind (arith, common_steps) in
    let one : c.age_at.result ≡ age place = c.age_at.ensures ∙ l.invariant.before place in
    record {
      before = l.invariant.before;
      items = l.invariant.items;
      are = rw (c.in_ok-push.ensures.ok, one) (l.invariant.are ∙ (ap (λ k. l.ages ++ map age k) are
          ∙ sym (append_assoc l.ages (age place ∷ []) (map age (drop (i + 1) items)))));
    }
