use Rattle.std.proofs.Common.{refl, sym, ap, ◌∙◌}
use Rattle.mk_plan.specs.AsNew.{as_new}
use Rattle.mk_plan.proofs.AsNewLemmas.{as-new-is, set-ordered, set-sourced}
use Rattle.mk_plan.proofs.plan.Plan.count_as_new.Goals as goal

pub invariant_of-self : goal.invariant_of-self
invariant_of-self c = (
  set-ordered c.self.inside.nodes 0 c.args.n _ c.get_mut-node.result.now c.get_mut-node.ensures.value refl
      c.self.invariant.0,
  set-sourced c.self.inside.nodes c.args.n _ c.get_mut-node.result.now c.get_mut-node.ensures.value refl refl
      c.self.invariant.1,
)

pub returns : goal.returns
returns c =
    as-new-is c.self.inside.nodes c.args.n c.get_mut-node.result.now c.with-node.result
    c.get_mut-node.ensures.value c.with-node.ensures
    ∙ ap (λ nodes. as_new nodes c.args.n) c.self.view_is
