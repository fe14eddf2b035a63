use Rattle.std.proofs.Common.{◌≡◌, ◌+◌, ◌∷◌, ◌++◌, drop, get_or, map, ap, arith}
use Rattle.std.proofs.lemmas.Grind.{common_steps}
use Rattle.mk_closure.proofs.MemberLemmas.{planned_of-next}
use Rattle.mk_closure.specs.Members as spec
use Rattle.mk_closure.proofs.closure.Closure.add_sourced.Goals as goal

pub loop-n-preserved : goal.loop-n-preserved
loop-n-preserved c =
    let s = c.args.self.now in
    let i = c.loop-n.n-index in
    let nodes = c.args.nodes.now in
    let n = get_or nodes i 0 in
    let are : drop i nodes ≡ n ∷ drop (i + 1) nodes = grind (arith, common_steps) in
    rw (c.in_ok-add_if_planned.ensures, c.stand_in.ensures.value)
    (planned_of-next s (c.args.planned.now ++ spec.sourced_of s nodes) c.loop-n.planned
    (map (spec.stands_for s) (drop i nodes)) (spec.stands_for s n)
    (map (spec.stands_for s) (drop (i + 1) nodes)) (ap (map (spec.stands_for s)) are)
    c.loop-n.invariant)
