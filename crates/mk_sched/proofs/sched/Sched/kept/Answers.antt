use Rattle.std.proofs.Common.{◌≡◌, ◌<◌, ◌+◌, ℕ, List, subst, refl, arith, get_or, length}
use Rattle.mk_plan.specs.declared.plan.NodeState.TheVariants.{Settled}
use Rattle.mk_sched.specs.Counts.{times}
use Rattle.mk_sched.specs.Schedule.{predecessors}
use Rattle.mk_sched.proofs.CountLemmas.{enough, counts_settled}
use Rattle.mk_sched.proofs.DecideLemmas.{decided_in, not_settled, row_is, told_undecided}
use Rattle.mk_sched.proofs.sched.Sched.kept.Goals as goal

pub settle-requires-clause-node : goal.settle-requires-clause-node
settle-requires-clause-node c = (decided_in _ _ c.args.n c.self.view_is c.requires).within

pub index-requires : goal.index-requires
index-requires c =
    let v = c.self.invariant in
    let d = decided_in _ _ c.args.n c.self.view_is c.requires in
    omega (arith, d.within, v.told.as_many, v.followers_are.long)

pub settle-requires-clause-enough : goal.settle-requires-clause-enough
settle-requires-clause-enough c =
    let s = c.self.inside in
    let v = c.self.invariant in
    let d = decided_in _ _ c.args.n c.self.view_is c.requires in
    let was = not_settled s.nodes.items c.args.n d.within d.undecided in
    let before = predecessors s.plan.now in
    let inside : c.args.n < length s.followers.items = omega (arith, d.within, v.told.as_many, v.followers_are.long) in
    let row = row_is s.followers.items c.args.n _ _ c.as_slice.ensures.value c.index.ensures inside in
    rw row (enough before s.followers.items s.nodes.items s.counts.items c.args.n v.followers_are
    v.counts_are v.told.as_many d.within was)

pub invariant_of-self : goal.invariant_of-self
invariant_of-self c =
    let s = c.self.inside in
    let v = c.self.invariant in
    let d = decided_in _ _ c.args.n c.self.view_is c.requires in
    let was = not_settled s.nodes.items c.args.n d.within d.undecided in
    let before = predecessors s.plan.now in
    let inside : c.args.n < length s.followers.items = omega (arith, d.within, v.told.as_many, v.followers_are.long) in
    let row = row_is s.followers.items c.args.n _ _ c.as_slice.ensures.value c.index.ensures inside in
    let nodes_are = c.settle.ensures.nodes in
    let none : s.tokens ≡ s.tokens + 0 = omega arith in
    record {
      told = rw nodes_are (told_undecided before s.nodes.items s.tokens s.any_failed c.args.n Settled v.told
          d.within d.undecided refl s.tokens none);
      followers_are = v.followers_are;
      counts_are = rw nodes_are (counts_settled before s.followers.items s.nodes.items s.counts.items
          c.settle.new.counts.items c.args.n v.followers_are v.counts_are v.told.as_many d.within was
          c.settle.ensures.long
          (subst (λ (l : List ℕ). (other : ℕ) → get_or c.settle.new.counts.items other 0 + times other l
          ≡ get_or s.counts.items other 0) row c.settle.ensures.less));
      entered_are = c.settle.ensures.entered;
    }
