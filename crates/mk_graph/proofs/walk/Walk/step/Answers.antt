use Rattle.std.proofs.Common.{◌≡◌, ℕ, List, ◌∷◌, [], length, get_or, sym, ap, ◌∙◌, subst, arith}
use Rattle.mk_graph.proofs.StepViewLemmas.{mark_is}
use Rattle.mk_graph.proofs.StepLemmas.{Leads-over, Leads-closed, Leads-entered, Leads-gone}
use Rattle.mk_graph.proofs.StepLemmas.{IsFit-entered}
use Rattle.mk_graph.proofs.StepCountLemmas.{fewer-entered}
use Rattle.mk_graph.proofs.StepCountLemmas.{fewer-gone}
use Rattle.mk_graph.proofs.StepViewLemmas.{empty_list}
use Rattle.mk_graph.specs.StepView.{frames_of}
use Rattle.mk_graph.specs.Steps.{State, IsFit, Leads}
use Rattle.mk_graph.specs.Walks.{Walked}
use Rattle.mk_graph.specs.declared.walk.Mark.{Mark}
use Rattle.mk_graph.specs.declared.walk.Mark.TheVariants.{New}
use Rattle.mk_graph.proofs.walk.Walk.step.Goals as goal
use Rattle.mk_graph.proofs.walk.Walk.step.Goals.{In-Some, After-index, After-back}

-- the state, where its list is empty
over : (c : After-back) → ◌≡◌ {A = State} c.args.self.now (record {
  marks = c.self.inside.marks.items;
  path = frames_of c.self.inside.path.items;
  rest = [];
})
over c =
    sym c.self.view_is ∙ ap (λ rest. record {
      marks = c.self.inside.marks.items;
      path = frames_of c.self.inside.path.items;
      rest = rest;
    }) (empty_list c.self.inside.rest.now c.in_default.ensures.cases)

pub returns-in_default-clause-turned : goal.returns-in_default-clause-turned
returns-in_default-clause-turned c = λ whole done leads.
    Leads-gone c.args.preds.now done c.self.inside.marks.items (frames_of c.self.inside.path.items)
    c.args.self.now c.back.new.self c.back.result whole (over c) c.back.ensures.state
    c.back.ensures.turn c.requires.fit leads

pub returns-in_default-clause-fewer : goal.returns-in_default-clause-fewer
returns-in_default-clause-fewer c =
    fewer-gone c.args.preds.now c.self.inside.marks.items (frames_of c.self.inside.path.items)
    c.args.self.now c.back.new.self c.back.result (over c) c.back.ensures.state
    c.back.ensures.turn

-- the state, with the first node of its list
state : (c : In-Some) → ◌≡◌ {A = State} c.args.self.now (record {
  marks = c.self.inside.marks.items;
  path = frames_of c.self.inside.path.items;
  rest = c.in-Some.n.now ∷ c.in-Some.more.now;
})
state c =
    sym c.self.view_is ∙ ap (λ rest. record {
      marks = c.self.inside.marks.items;
      path = frames_of c.self.inside.path.items;
      rest = rest;
    }) c.in-Some.ensures.cases.0

fit : (c : In-Some) → IsFit (length c.args.preds.now) (record {
  marks = c.self.inside.marks.items;
  path = frames_of c.self.inside.path.items;
  rest = c.in-Some.n.now ∷ c.in-Some.more.now;
})
fit c = subst (λ s. IsFit (length c.args.preds.now) s) (state c) c.requires.fit

leads : (c : In-Some) (whole : Walked) (done : List ℕ)
    → Leads c.args.preds.now done c.args.self.now whole
    → Leads c.args.preds.now done (record {
      marks = c.self.inside.marks.items;
      path = frames_of c.self.inside.path.items;
      rest = c.in-Some.n.now ∷ c.in-Some.more.now;
    }) whole
leads c whole done from = subst (λ s. Leads c.args.preds.now done s whole) (state c) from

-- the mark of the node
mark : (c : After-index) (is : Mark) → c.index.result.now ≡ is
    → get_or c.self.inside.marks.items c.in-Some.n.now New ≡ is
mark c is read =
    let whole = fit (goal.at.After-index c).In-Some in
    mark_is c.self.inside.marks.items c.in-Some.n.now c.index.result.now is
    (omega (arith, whole.below.0, whole.as_many)) c.index.ensures read

pub returns-in_ok-enter-in-New-clause-fit : goal.returns-in_ok-enter-in-New-clause-fit
returns-in_ok-enter-in-New-clause-fit c =
    let at = (goal.at.returns-in_ok-enter-in-New-clause-fit c).In-Some in
    rw c.in_ok-enter-in-New.ensures
    (IsFit-entered c.args.preds.now c.self.inside.marks.items
    (frames_of c.self.inside.path.items) c.in-Some.n.now c.in-Some.more.now c.requires.preds
    (fit at))

pub returns-in_ok-enter-in-New-clause-turned : goal.returns-in_ok-enter-in-New-clause-turned
returns-in_ok-enter-in-New-clause-turned c = λ whole done from.
    let at = goal.at.returns-in_ok-enter-in-New-clause-turned c in
    let whole_fit = fit at.In-Some in
    rw c.in_ok-enter-in-New.ensures
    (Leads-entered c.args.preds.now done c.self.inside.marks.items
    (frames_of c.self.inside.path.items) c.in-Some.n.now c.in-Some.more.now whole
    whole_fit.below.0 whole_fit.as_many whole_fit.within
    (mark at.After-index _ c.in-New.is) (leads at.In-Some whole done from))

pub returns-in_ok-enter-in-New-clause-fewer : goal.returns-in_ok-enter-in-New-clause-fewer
returns-in_ok-enter-in-New-clause-fewer c =
    let at = goal.at.returns-in_ok-enter-in-New-clause-fewer c in
    let whole_fit = fit at.In-Some in
    rw (c.in_ok-enter-in-New.ensures, state at.In-Some)
    (fewer-entered c.args.preds.now c.self.inside.marks.items
    (frames_of c.self.inside.path.items) c.in-Some.n.now c.in-Some.more.now
    (omega (arith, whole_fit.below.0, whole_fit.as_many)) whole_fit.below.0
    (mark at.After-index _ c.in-New.is))

pub returns-in-OnPath-clause-turned : goal.returns-in-OnPath-clause-turned
returns-in-OnPath-clause-turned c = λ whole done from.
    let at = goal.at.returns-in-OnPath-clause-turned c in
    let whole_fit = fit at.In-Some in
    Leads-closed c.args.preds.now done c.self.inside.marks.items
    (frames_of c.self.inside.path.items) c.in-Some.n.now c.in-Some.more.now whole
    whole_fit.below.0 whole_fit.within (mark at.After-index _ c.in-OnPath.is)
    (leads at.In-Some whole done from)

pub returns-in-Done-clause-turned : goal.returns-in-Done-clause-turned
returns-in-Done-clause-turned c = λ whole done from.
    let at = goal.at.returns-in-Done-clause-turned c in
    let whole_fit = fit at.In-Some in
    Leads-over c.args.preds.now done c.self.inside.marks.items
    (frames_of c.self.inside.path.items) c.in-Some.n.now c.in-Some.more.now whole
    whole_fit.below.0 (mark at.After-index _ c.in-Done.is) (leads at.In-Some whole done from)
