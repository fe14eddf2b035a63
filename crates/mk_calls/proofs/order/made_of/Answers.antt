use Rattle.std.proofs.Common.{◌≡◌, ◌∙◌, ◌<◌, ◌≤◌, ◌+◌, get_or, subst, sym, arith}
use Rattle.mk_plan.specs.declared.plan.NodeState.TheVariants.{Undecided, Open, Settled}
use Rattle.mk_sched.specs.Next.{next_of}
use Rattle.mk_sched.specs.Schedule.{Schedule, with_node}
use Rattle.mk_sched.specs.declared.sched.Next.TheVariants.{Decide}
use Rattle.mk_calls.proofs.RunLemmas.{all_open_started, all_open_ended}
use Rattle.mk_calls.proofs.order.made_of.Goals as goal
use Rattle.mk_calls.proofs.order.made_of.Goals.{in-Decide, in-Wait}

pub loop-preserved : goal.loop-preserved
loop-preserved c = elim c.match-next.branch [
  | in-Decide w ↦
      let next : next_of c.loop.sched ≡ Decide w.in-Decide.n = sym c.next.ensures ∙ w.in-Decide.is in
      let sched : c.match-next.sched ≡ with_node c.loop.sched w.in-Decide.n Open = w.sched-is ∙ w.started.ensures in
      record {
        few = omega (arith, w.started-is, c.loop.invariant.few);
        first = omega (arith, w.started-is, w.ended-is, c.loop.invariant.first);
        open_ones = λ node from to.
            let low : c.loop.ended ≤ node = omega (arith, from, w.ended-is) in
            let high : node < w.in-Decide.n + 1 = omega (arith, to, w.started-is, w.if-n-started.true) in
            subst (λ (one : Schedule). get_or one.nodes node Undecided ≡ Open) (sym sched)
            (all_open_started c.loop.sched w.in-Decide.n c.loop.ended next
            (λ one a b. c.loop.invariant.open_ones one a (omega (arith, b, w.if-n-started.true))) node low high);
      }
  | in-Wait w ↦
      let sched : c.match-next.sched ≡ with_node c.loop.sched c.loop.ended Settled = w.sched-is ∙ w.ended.ensures in
      record {
        few = omega (arith, w.started-is, c.loop.invariant.few);
        first = omega (arith, w.started-is, w.ended-is, w.if-ended-started.true);
        open_ones = λ node from to.
            let low : c.loop.ended + 1 ≤ node = omega (arith, from, w.ended-is) in
            let high : node < c.loop.started = omega (arith, to, w.started-is) in
            subst (λ (one : Schedule). get_or one.nodes node Undecided ≡ Open) (sym sched)
            (all_open_ended c.loop.sched.nodes c.loop.ended c.loop.started Settled c.loop.invariant.open_ones node low high);
      }
]
