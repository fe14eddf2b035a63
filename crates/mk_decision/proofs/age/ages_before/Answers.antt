use Rattle.std.proofs.Common.{◌≡◌, ◌∙◌, ◌+◌, ◌-◌, ◌∷◌, drop, ap, arith}
use Rattle.mk_plan.proofs.ListLemmas.{items-from}
use Rattle.mk_decision.specs.Known.{known}
use Rattle.mk_decision.proofs.AgeLemmas.{age-more, before-at}
use Rattle.mk_decision.proofs.age.ages_before.Goals as goal

pub age_of-age-requires : goal.age_of-age-requires
age_of-age-requires c =
    let before = before-at c.args.node c.args.seen.now _ c.get-one.result.now c.requires.seen
    c.get-one.ensures in
    let within = c.requires.node in
    omega arith

pub add_age-requires : goal.add_age-requires
add_age-requires c = c.loop-left.invariant.room c.get-one.result.now.place
    (before-at c.args.node c.args.seen.now _ c.get-one.result.now c.requires.seen c.get-one.ensures)

pub loop-left-preserved : goal.loop-left-preserved
loop-left-preserved c =
    let l = c.loop-left in
    let seen = c.args.seen.now in
    let one = c.get-one.result.now in
    let i = l.left - 1 in
    let some = c.loop-left-test.true in
    let next : i + 1 ≡ l.left = omega arith in
    let are : drop i seen ≡ one ∷ drop l.left seen =
    items-from seen i one c.get-one.ensures ∙ ap (λ k. one ∷ drop k seen) next in
    let within = l.invariant.within in
    record {
      within = omega arith;
      are = age-more c.args.plan.now (drop i seen) (drop l.left seen) one (known l.ages)
          (known c.add_age.new.ages) c.age_of-age.result are l.invariant.are
          c.age_of-age.ensures c.in_ok-add_age.ensures.here c.in_ok-add_age.ensures.others;
      room = λ place less. c.in_ok-add_age.ensures.room place (l.invariant.room place less);
    }
