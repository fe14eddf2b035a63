use Rattle.std.proofs.Common.{◌≡◌, length, subst, arith}
use Rattle.mk_closure.proofs.MemberLemmas.{all_preds-next, all_preds-end, all_preds-below}
use Rattle.mk_closure.proofs.MemberLemmas.{all_preds-length}
use Rattle.mk_closure.specs.Members as spec
use Rattle.mk_graph.specs.Numbers.{EachBelow}
use Rattle.mk_closure.proofs.closure.Closure.all_preds.Goals as goal

pub loop-n-preserved : goal.loop-n-preserved
loop-n-preserved c =
    rw (c.in_ok-push.ensures.ok, c.in_ok-preds-2.ensures)
    (all_preds-next c.args.self.now (spec.all_preds c.args.self.now) c.loop-n.preds c.loop-n.n
    (length c.args.self.now.parts) (omega arith) c.loop-n.invariant)

pub returns-clause-many : goal.returns-clause-many
returns-clause-many c =
    let s = c.args.self.now in
    let are = all_preds-end s (spec.all_preds s) c.loop-n.preds c.loop-n.n (length s.parts)
    (omega arith) c.loop-n.invariant in
    subst (λ l. length l ≡ length s.parts) are (all_preds-length s)

pub returns-clause-below : goal.returns-clause-below
returns-clause-below c =
    let s = c.args.self.now in
    let are = all_preds-end s (spec.all_preds s) c.loop-n.preds c.loop-n.n (length s.parts)
    (omega arith) c.loop-n.invariant in
    subst (EachBelow (length s.parts)) are
    (all_preds-below s (spec.numbers_from 0 (length s.parts)))
