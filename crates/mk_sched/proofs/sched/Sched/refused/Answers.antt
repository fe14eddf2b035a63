use Rattle.std.proofs.Common.{ℕ, List, subst, refl}
use Rattle.mk_plan.specs.declared.plan.NodeState.TheVariants.{Failed}
use Rattle.mk_sched.specs.Least.{AreEntered}
use Rattle.mk_sched.specs.Schedule.{predecessors}
use Rattle.mk_sched.proofs.CountLemmas.{counts_same}
use Rattle.mk_sched.proofs.DecideLemmas.{decided_in, not_settled, told_refused}
use Rattle.mk_sched.proofs.sched.Sched.refused.Goals as goal

pub change-requires-clause-node : goal.change-requires-clause-node
change-requires-clause-node c = (decided_in _ _ c.args.n c.self.view_is c.requires).within

pub invariant_of-self : goal.invariant_of-self
invariant_of-self c =
    let s = c.self.inside in
    let v = c.self.invariant in
    let d = decided_in _ _ c.args.n c.self.view_is c.requires in
    let was = not_settled s.nodes.items c.args.n d.within d.undecided in
    let before = predecessors s.plan.now in
    let nodes_are = c.change.ensures.nodes in
    record {
      told = rw nodes_are (told_refused before s.nodes.items s.tokens s.any_failed c.args.n v.told
          d.within d.undecided);
      followers_are = v.followers_are;
      counts_are = rw nodes_are (counts_same before s.nodes.items s.counts.items c.args.n Failed v.counts_are
          d.within was refl);
      entered_are = subst (λ (cs : List ℕ). AreEntered c.change.new.nodes.items cs c.change.new.entries.items)
          c.deref.ensures.value c.change.ensures.entered;
    }
