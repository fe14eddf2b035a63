use Rattle.std.proofs.Common.{false, Ok, Err}
use Rattle.std.proofs.lemmas.Result.{err_from_is_err_and}
use Rattle.mk_ast.specs.View.{tree_view}
use Rattle.mk_values.proofs.KeepingLemmas.{tree_kept}
use Rattle.mk_values.proofs.KeptLemmas.{agrees_kept, refused_kept}
use Rattle.mk_values.specs.Calls.{at}
use Rattle.mk_values.specs.Evaluators.{progress}
use Rattle.mk_values.specs.Names.{context}
use Rattle.mk_expand.proofs.noted.names_behind.Goals as goal

pub returns-clause-names : goal.returns-clause-names
returns-clause-names g c = λ answers by.
    let first = c.in_ok-run.ensures in
    let given = rw (first.0, first.1, first.2, first.3)
    at (c.in_ok-tree_value.ensures.value answers by) in
    let here = context c.args.scopes.now c.args.locals.now (g.F.Facts.lists c.args.facts.now)
    answers false in
    let p = at c.tree_value.new.run (g.F.Facts.asked c.tree_value.new.facts) in
    let start = progress 0 (g.F.Facts.asked c.args.facts.now) in
    rw c.in_ok-kept_names.ensures
    (agrees_kept p c.args.before (Ok c.in_ok-tree_value.field-0) _ _
    (tree_kept c.args.before here start (tree_view c.args.tree.now)) given)

pub returns-in_err-tree_value-clause-names : goal.returns-in_err-tree_value-clause-names
returns-in_err-tree_value-clause-names g c =
    let is = err_from_is_err_and c.from_residual-in_err-tree_value.result
    c.from_residual-in_err-tree_value.ensures.1 in
    let first = c.in_ok-run.ensures in
    rw (is.1, is.2) (λ answers by.
    let given = rw (first.0, first.1, first.2, first.3)
    at (c.in_err-tree_value.ensures.value answers by) in
    let here = context c.args.scopes.now c.args.locals.now (g.F.Facts.lists c.args.facts.now)
    answers false in
    let p = at c.tree_value.new.run (g.F.Facts.asked c.tree_value.new.facts) in
    let start = progress 0 (g.F.Facts.asked c.args.facts.now) in
    agrees_kept p c.args.before (Err c.in_err-tree_value.field-0.0) _ _
    (tree_kept c.args.before here start (tree_view c.args.tree.now)) given)

pub returns-in_err-tree_value-clause-questions : goal.returns-in_err-tree_value-clause-questions
returns-in_err-tree_value-clause-questions g c =
    let is = err_from_is_err_and c.from_residual-in_err-tree_value.result
    c.from_residual-in_err-tree_value.ensures.1 in
    let first = c.in_ok-run.ensures in
    rw (is.1, is.2) (λ answers by.
    let given = rw (first.0, first.1, first.2, first.3)
    at (c.in_err-tree_value.ensures.value answers by) in
    let here = context c.args.scopes.now c.args.locals.now (g.F.Facts.lists c.args.facts.now)
    answers false in
    let p = at c.tree_value.new.run (g.F.Facts.asked c.tree_value.new.facts) in
    let start = progress 0 (g.F.Facts.asked c.args.facts.now) in
    refused_kept p c.args.before c.in_err-tree_value.field-0.0 _ _
    (tree_kept c.args.before here start (tree_view c.args.tree.now)) given)
