use Rattle.std.proofs.Common.{◌≡◌, ◌∙◌, ℕ, ◌+◌, [], ◌∷◌, ◌++◌, drop, get_or, map, ap, arith}
use Rattle.std.proofs.lemmas.Grind.{common_steps}
use Rattle.mk_closure.specs.Members.{sourced_of, stands_for}
use Rattle.mk_plan.proofs.PlanLemmas.{placed-append}
use Rattle.mk_plan.proofs.making.add_sourced.Goals as goal

pub loop-n-preserved : goal.loop-n-preserved
loop-n-preserved c =
    let i = c.loop-n.n-index in
    let nodes = c.args.nodes.now in
    let s = c.args.closure.now in
    let place : ℕ → ℕ = λ m. get_or c.args.places.now m 0 in
    let n = get_or nodes i 0 in
    let are : drop i nodes ≡ n ∷ drop (i + 1) nodes = grind (arith, common_steps) in
    rw (c.in_ok-add_place.ensures, c.stand_in.ensures.value)
    (c.loop-n.invariant
    ∙ (ap (λ l. c.loop-n.found ++ map place (sourced_of s l)) are
    ∙ placed-append s place c.loop-n.found (stands_for s n ∷ [])
    (map (stands_for s) (drop (i + 1) nodes))))
