use Rattle.mk_ast.specs.View.{tree_view}
use Rattle.mk_values.proofs.FactLemmas.{agrees_asked, refused_behind}
use Rattle.mk_values.specs.Value.{of_tree}
use Rattle.mk_expand.proofs.whole.expand.Goals as goal

pub returns-clause-value : goal.returns-clause-value
returns-clause-value g c = λ answers by.
    let first = c.in_ok-run.ensures in
    agrees_asked _ _ _
    (rw (first.0, first.1, first.2, first.3) at (c.tree_value.ensures.value answers by))

pub returns-clause-questions : goal.returns-clause-questions
returns-clause-questions g c =
    let first = c.in_ok-run.ensures in
    refused_behind _ _
    (λ answers. (of_tree c.args.scopes.now c.args.locals.now (g.F.Facts.lists c.args.facts.now)
    answers c.args.keep (g.F.Facts.asked c.args.facts.now) (tree_view c.args.tree.now)).answer)
    (λ answers by.
    rw (first.0, first.1, first.2, first.3) at (c.tree_value.ensures.value answers by))
