use Rattle.std.proofs.Common.{◌≡◌, ◌∙◌, ◌+◌, ◌∷◌, drop, get_or, ap, arith}
use Rattle.std.proofs.lemmas.Grind.{common_steps}
use Rattle.mk_decision.specs.Ages as spec
use Rattle.mk_decision.specs.Known.{known}
use Rattle.mk_decision.proofs.age.newest.Goals as goal

pub loop-place-preserved : goal.loop-place-preserved
loop-place-preserved c =
    let i = c.loop-place.place-index in
    let ages = known c.args.ages.now in
    let places = c.args.places.now in
    let place = get_or places i 0 in
    let are : drop i places ≡ place ∷ drop (i + 1) places = grind (arith, common_steps) in
    let now : c.newer-newest.result ≡ spec.newer c.loop-place.newest (ages place) =
    c.newer-newest.ensures ∙ ap (spec.newer c.loop-place.newest) c.age_at.ensures in
    rw now (c.loop-place.invariant ∙ ap (spec.newest ages c.loop-place.newest) are)
