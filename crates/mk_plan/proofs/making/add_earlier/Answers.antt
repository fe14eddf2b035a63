use Rattle.std.proofs.Common.{◌∙◌, ◌+◌, ◌-◌, ◌<◌, [], ◌∷◌, ◌++◌, ap, sym, append_assoc, arith}
use Rattle.mk_closure.proofs.MemberLemmas.{numbers_from-next}
use Rattle.mk_closure.specs.Members.{numbers_from}
use Rattle.mk_plan.proofs.making.add_earlier.Goals as goal

pub loop-place-preserved : goal.loop-place-preserved
loop-place-preserved c =
    let place = c.loop-place.place in
    let count = c.args.count in
    let less : place < count = omega arith in
    rw c.in_ok-push.ensures.ok
    (c.loop-place.invariant
    ∙ (ap (λ l. c.loop-place.places ++ l) (numbers_from-next place count less)
    ∙ sym (append_assoc c.loop-place.places (place ∷ [])
    (numbers_from (place + 1) (count - (place + 1))))))
