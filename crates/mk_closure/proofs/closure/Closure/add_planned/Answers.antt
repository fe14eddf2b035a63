use Rattle.std.proofs.Common.{◌≡◌, ◌+◌, ◌∷◌, ◌++◌, drop, get_or, arith}
use Rattle.std.proofs.lemmas.Grind.{common_steps}
use Rattle.mk_closure.proofs.MemberLemmas.{planned_of-next}
use Rattle.mk_closure.specs.Members as spec
use Rattle.mk_closure.proofs.closure.Closure.add_planned.Goals as goal

pub loop-n-preserved : goal.loop-n-preserved
loop-n-preserved c =
    let i = c.loop-n.n-index in
    let nodes = c.args.nodes.now in
    let n = get_or nodes i 0 in
    let are : drop i nodes ≡ n ∷ drop (i + 1) nodes = grind (arith, common_steps) in
    rw c.in_ok-add_if_planned.ensures
    (planned_of-next c.args.self.now (c.args.planned.now ++ spec.planned_of c.args.self.now nodes)
    c.loop-n.planned (drop i nodes) n (drop (i + 1) nodes) are c.loop-n.invariant)
