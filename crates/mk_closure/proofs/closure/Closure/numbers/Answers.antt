use Rattle.std.proofs.Common.{◌≡◌, ◌+◌, ◌∷◌, drop, arith}
use Rattle.std.proofs.lemmas.Grind.{common_steps}
use Rattle.mk_closure.proofs.MemberLemmas.{numbers_in-next}
use Rattle.mk_closure.proofs.closure.Closure.numbers.Goals as goal

pub loop-name-preserved : goal.loop-name-preserved
loop-name-preserved c =
    let i = c.loop-name.name-index in
    let names = c.args.names.now in
    let name = c.bytes.result.now in
    let are : drop i names ≡ name ∷ drop (i + 1) names = grind (arith, common_steps) in
    rw c.in_ok-add_number.ensures
    (numbers_in-next c.args.self.now names c.loop-name.numbers (drop i names) name
    (drop (i + 1) names) are c.loop-name.invariant)
