use Rattle.std.proofs.Common.{◌≡◌, ◌-◌, ◌<◌, length, get_or, subst, sym, arith}
use Rattle.std.proofs.lemmas.Grind.{common_steps}
use Rattle.mk_decision.specs.Ages.{is_one_of}
use Rattle.mk_decision.specs.Rising.{IsLast}
use Rattle.mk_decision.proofs.RisingLemmas.{last-counts, none_behind}
use Rattle.mk_decision.proofs.wanted.last_rising.Goals as goal

pub returns-clause-some : goal.returns-clause-some
returns-clause-some c =
    let places = c.args.places.now in
    let last = c.in_ok-last.field-0.now in
    let item = c.in_ok-last.ensures.item in
    let value = c.in_ok-last.ensures.value in
    let some : 0 < length places = grind (arith, common_steps) in
    let is : last ≡ get_or places (length places - 1) 0 = grind (arith, common_steps) in
    subst (λ k. IsLast k (is_one_of places)) (sym is) (record {
      counts = last-counts places some;
      most = λ one one_is. none_behind places one some c.requires one_is;
    })
