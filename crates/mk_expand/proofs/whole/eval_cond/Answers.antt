use Rattle.mk_cond.specs.View.{cond_view}
use Rattle.mk_values.proofs.FactLemmas.{agrees_asked, refused_behind}
use Rattle.mk_values.specs.Value.{of_condition}
use Rattle.mk_expand.proofs.whole.eval_cond.Goals as goal

pub returns-clause-truth : goal.returns-clause-truth
returns-clause-truth g c = λ answers by.
    let first = c.in_ok-run.ensures in
    agrees_asked _ _ _
    (rw (first.0, first.1, first.2, first.3) at (c.truth_of.ensures.value answers by))

pub returns-clause-questions : goal.returns-clause-questions
returns-clause-questions g c =
    let first = c.in_ok-run.ensures in
    refused_behind _ _
    (λ answers. (of_condition c.args.scopes.now c.args.locals.now (g.F.Facts.lists c.args.facts.now)
    answers (g.F.Facts.asked c.args.facts.now) (cond_view c.args.cond.now)).answer)
    (λ answers by. rw (first.0, first.1, first.2, first.3) at (c.truth_of.ensures.value answers by))
