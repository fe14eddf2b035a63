use Rattle.std.proofs.Common.{◌∙◌, [], ◌∷◌, length, reverse, sym, ap, subst}
use Rattle.std.proofs.lemmas.List.{reverse-append, reverse-reverse}
use Rattle.mk_graph.proofs.DoneLemmas.{walked-order}
use Rattle.mk_graph.proofs.StepLemmas.{IsFit-first, Leads-first}
use Rattle.mk_graph.specs.Orders.{IsOrder}
use Rattle.mk_graph.specs.Steps.{Leads}
use Rattle.mk_graph.specs.Walks.{ordered_by, walked}
use Rattle.mk_graph.specs.declared.walk.Ordered.TheVariants.{Order, Cycle}
use Rattle.mk_graph.proofs.walk.depth_first.Goals as goal

pub steps-init : goal.steps-init
steps-init c =
    rw (c.in_ok-walk.ensures, c.len.ensures.value, c.in_ok-order.ensures.empty) (record {
      fit = IsFit-first (length c.args.preds.now) c.args.from.now c.requires.from;
      leads = Leads-first c.args.preds.now c.args.from.now;
    })

pub steps-preserved-in-On : goal.steps-preserved-in-On
steps-preserved-in-On c =
    let turned = c.in_ok-step.ensures.turned (walked c.args.preds.now c.args.from.now)
    (reverse c.steps.order) c.steps.invariant.leads in
    record { fit = c.in_ok-step.ensures.fit; leads = rw c.in-On.is at turned }

pub steps-preserved : goal.steps-preserved
steps-preserved c =
    let whole = walked c.args.preds.now c.args.from.now in
    let turned = c.in_ok-step.ensures.turned whole (reverse c.steps.order) c.steps.invariant.leads in
    let later = ap reverse c.in_ok-push-in-Left.ensures.ok
    ∙ reverse-append c.steps.order (c.in-Left.n ∷ []) in
    record {
      fit = c.in_ok-step.ensures.fit;
      leads = subst (λ done. Leads c.args.preds.now done c.step.new.self whole) (sym later)
          (rw c.in-Left.is at turned);
    }

pub returns-in-Closed-clause-value : goal.returns-in-Closed-clause-value
returns-in-Closed-clause-value c =
    let turned = c.in_ok-step.ensures.turned (walked c.args.preds.now c.args.from.now)
    (reverse c.steps.order) c.steps.invariant.leads in
    let met = rw c.in-Closed.is at turned in
    sym (ap ordered_by met ∙ ap Cycle (sym c.in_ok-closed-in-Closed.ensures))

pub returns-in-Over-clause-value : goal.returns-in-Over-clause-value
returns-in-Over-clause-value c =
    let turned = c.in_ok-step.ensures.turned (walked c.args.preds.now c.args.from.now)
    (reverse c.steps.order) c.steps.invariant.leads in
    let over = rw c.in-Over.is at turned in
    sym (ap ordered_by over ∙ ap Order (reverse-reverse c.steps.order))

pub returns-in-Over-clause-order : goal.returns-in-Over-clause-order
returns-in-Over-clause-order c =
    let turned = c.in_ok-step.ensures.turned (walked c.args.preds.now c.args.from.now)
    (reverse c.steps.order) c.steps.invariant.leads in
    let over = rw c.in-Over.is at turned in
    subst (IsOrder c.args.preds.now) (reverse-reverse c.steps.order)
    (walked-order c.args.preds.now c.args.from.now (reverse c.steps.order) c.requires.preds
    c.requires.from over)
