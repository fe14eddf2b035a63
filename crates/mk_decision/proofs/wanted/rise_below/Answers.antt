use Rattle.std.proofs.Common.{◌≡◌, ◌∙◌, ◌+◌, ◌-◌, take, get_or, ap, arith}
use Rattle.std.proofs.lemmas.Bool.Decides.{nat_tests}
use Rattle.std.proofs.lemmas.Grind.{common_steps}
use Rattle.std.proofs.lemmas.List.{take_more}
use Rattle.mk_decision.specs.Rising.{rise_below}
use Rattle.mk_decision.proofs.RisingLemmas.{rise_below-last}
use Rattle.mk_decision.proofs.wanted.rise_below.Goals as goal

pub returns-then-places-left : goal.returns-then-places-left
returns-then-places-left c =
    let l = c.loop-left in
    let places = c.args.places.now in
    let some = c.loop-left-test.true in
    let within = l.invariant.within in
    let next : l.left ≡ (l.left - 1) + 1 = omega arith in
    let parts = ap (λ k. take k places) next ∙ take_more places (l.left - 1) 0 (omega arith) in
    let split = ap (λ k. rise_below k l.next) parts ∙ rise_below-last (take (l.left - 1) places) (get_or places (l.left - 1) 0) l.next in
    let rest = l.invariant.rest in
    let high = c.if-places-left.true in
    grind (arith, nat_tests, common_steps)

pub loop-left-preserved : goal.loop-left-preserved
loop-left-preserved c =
    let l = c.loop-left in
    let places = c.args.places.now in
    let some = c.loop-left-test.true in
    let within = l.invariant.within in
    let next : l.left ≡ (l.left - 1) + 1 = omega arith in
    let parts = ap (λ k. take k places) next ∙ take_more places (l.left - 1) 0 (omega arith) in
    let split = ap (λ k. rise_below k l.next) parts ∙ rise_below-last (take (l.left - 1) places) (get_or places (l.left - 1) 0) l.next in
    let rest = l.invariant.rest in
    let low = c.if-places-left.false in
    record {
      within = omega arith;
      rest = grind (arith, nat_tests, common_steps);
    }
