use Rattle.std.proofs.Common.{◌≡◌, ◌<◌, ◌+◌, ℕ, List, false, subst, refl, arith, ap, get_or, length}
use Rattle.mk_plan.specs.declared.plan.NodeState.TheVariants.{Undecided, Failed}
use Rattle.mk_plan.specs.Deciding.{is_settled}
use Rattle.mk_sched.specs.Counts.{times}
use Rattle.mk_sched.specs.Least.{AreEntered}
use Rattle.mk_sched.specs.Schedule.{predecessors}
use Rattle.mk_sched.proofs.CountLemmas.{enough, counts_settled, counts_same}
use Rattle.mk_sched.proofs.DecideLemmas.{open_in, open_within, row_is, told_settled, told_failed}
use Rattle.mk_sched.proofs.sched.Sched.ended.Goals as goal

pub settle-requires-clause-enough : goal.settle-requires-clause-enough
settle-requires-clause-enough c =
    let s = c.self.inside in
    let v = c.self.invariant in
    let is_open = open_in _ _ c.args.n c.self.view_is c.requires in
    let within = open_within s.nodes.items c.args.n is_open in
    let was : is_settled (get_or s.nodes.items c.args.n Undecided) ≡ false = ap is_settled is_open in
    let before = predecessors s.plan.now in
    let inside : c.args.n < length s.followers.items = omega (arith, within, v.told.as_many, v.followers_are.long) in
    let row = row_is s.followers.items c.args.n _ _ c.as_slice.ensures.value c.index.ensures inside in
    rw row (enough before s.followers.items s.nodes.items s.counts.items c.args.n v.followers_are
    v.counts_are v.told.as_many within was)

pub invariant_of-self : goal.invariant_of-self
invariant_of-self c =
    let s = c.self.inside in
    let v = c.self.invariant in
    let is_open = open_in _ _ c.args.n c.self.view_is c.requires in
    let within = open_within s.nodes.items c.args.n is_open in
    let was : is_settled (get_or s.nodes.items c.args.n Undecided) ≡ false = ap is_settled is_open in
    let before = predecessors s.plan.now in
    let inside : c.args.n < length s.followers.items = omega (arith, within, v.told.as_many, v.followers_are.long) in
    let row = row_is s.followers.items c.args.n _ _ c.as_slice.ensures.value c.index.ensures inside in
    let nodes_are = c.settle.ensures.nodes in
    record {
      told = rw nodes_are (told_settled before s.nodes.items s.tokens s.any_failed c.args.n v.told is_open);
      followers_are = v.followers_are;
      counts_are = rw nodes_are (counts_settled before s.followers.items s.nodes.items s.counts.items
          c.settle.new.counts.items c.args.n v.followers_are v.counts_are v.told.as_many within was
          c.settle.ensures.long
          (subst (λ (l : List ℕ). (other : ℕ) → get_or c.settle.new.counts.items other 0 + times other l
          ≡ get_or s.counts.items other 0) row c.settle.ensures.less));
      entered_are = c.settle.ensures.entered;
    }

pub invariant_of-self-2 : goal.invariant_of-self-2
invariant_of-self-2 c =
    let s = c.self.inside in
    let v = c.self.invariant in
    let is_open = open_in _ _ c.args.n c.self.view_is c.requires in
    let within = open_within s.nodes.items c.args.n is_open in
    let was : is_settled (get_or s.nodes.items c.args.n Undecided) ≡ false = ap is_settled is_open in
    let before = predecessors s.plan.now in
    let nodes_are = c.change.ensures.nodes in
    record {
      told = rw nodes_are (told_failed before s.nodes.items s.tokens s.any_failed c.args.n v.told is_open);
      followers_are = v.followers_are;
      counts_are = rw nodes_are (counts_same before s.nodes.items s.counts.items c.args.n Failed v.counts_are
          within was refl);
      entered_are = subst (λ (cs : List ℕ). AreEntered c.change.new.nodes.items cs c.change.new.entries.items)
          c.deref.ensures.value c.change.ensures.entered;
    }
