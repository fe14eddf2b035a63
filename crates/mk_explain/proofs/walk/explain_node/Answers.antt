use Rattle.std.proofs.Common.{◌∙◌, List, Some, None, ap, sym}
use Rattle.std.proofs.lemmas.List.{append-nil}
use Rattle.std.proofs.lemmas.Result.{err_from_is_err_and}
use Rattle.mk_decision.proofs.LookLemmas.{looks-then}
use Rattle.mk_decision.specs.Makers.{work_on}
use Rattle.mk_plan.specs.declared.plan.PlanNode.{PlanNode}
use Rattle.mk_explain.proofs.TurnLemmas.{walked-halts, walked-more}
use Rattle.mk_explain.specs.declared.fault.ExplainFault.TheVariants.{NoMemory}
use Rattle.mk_explain.proofs.walk.explain_node.Goals as goal
use Rattle.mk_explain.proofs.walk.explain_node.Goals.{in-Some+in_ok-push, in_default}

pub returns-in_err-reason-clause-refused : goal.returns-in_err-reason-clause-refused
returns-in_err-reason-clause-refused g c =
    let p = err_from_is_err_and c.from_residual.result c.from_residual.ensures.1 in
    let refused = c.in_err-reason.ensures.refused in
    rw (p.1, p.2) (λ start first walked.
    walked-halts _ _ first _ c.args.node _ refused.0 _ c.requires walked refused.2
    (λ before looked. looks-then g.W.World.meaning start _ _ before refused.0 looked refused.1))

pub returns-in_err-push-clause-refused : goal.returns-in_err-push-clause-refused
returns-in_err-push-clause-refused g c =
    let p = err_from_is_err_and c.from_residual-in_err-push.result
    c.from_residual-in_err-push.ensures.1 in
    let told = c.in_ok-reason.ensures.told in
    rw (p.1, p.2) (λ start first walked.
    walked-halts _ _ first _ c.args.node _ told.0 NoMemory c.requires walked tt
    (λ before looked. looks-then g.W.World.meaning start _ _ before told.0 looked told.1))

pub returns-clause-told : goal.returns-clause-told
returns-clause-told g c =
    let told = c.in_ok-reason.ensures.told in
    let made = c.args.made.now in
    let flags = c.args.flags.now in
    elim c.match-branch-2.branch [
      | in-Some+in_ok-push w ↦ λ start first walked.
          walked-more _ _ first _ _ c.args.node _ _ told.0 (Some w.in-Some.reason) walked
          (rw w.in-Some.is at told.2)
          (ap (λ (plan : List PlanNode). work_on plan made flags) (w.plan-is ∙ w.count_as_new.ensures))
          (w.reasons-is ∙ w.in_ok-push.ensures.ok)
          (λ before looked. looks-then g.W.World.meaning start _ _ before told.0 looked told.1)
      | in_default w ↦ λ start first walked.
          walked-more _ _ first _ _ c.args.node _ _ told.0 None walked
          (rw w.in_default.is at told.2)
          (ap (λ (plan : List PlanNode). work_on plan made flags) w.plan-is)
          (w.reasons-is ∙ sym (append-nil _))
          (λ before looked. looks-then g.W.World.meaning start _ _ before told.0 looked told.1)
    ]
