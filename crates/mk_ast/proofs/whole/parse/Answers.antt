use Rattle.std.proofs.Common.{refl}
use Rattle.std.proofs.lemmas.Result.{err_from_is_err_and}
use Rattle.mk_bytes.proofs.AgreesLemmas.{AgreesErr-bind}
use Rattle.mk_ast.specs.View.{tree_view}
use Rattle.mk_ast.specs.declared.fault.AstFault.TheVariants.{NoMemory as no_memory}
use Rattle.mk_ast.proofs.SpelledReferences.{tree_of_text-spelled, tree_of_text-well_formed}
use Rattle.mk_ast.proofs.WholeLemmas.{tree-alone, tree-outside, tree-placed}
use Rattle.mk_ast.proofs.whole.parse.Goals as goal

pub returns-clause-spelled : goal.returns-clause-spelled
returns-clause-spelled c =
    let tree = tree_view c.in_ok-tree.tree in
    tree_of_text-spelled c.args.text.now tree (rw c.in_ok-tree.ensures.gives refl)

pub returns-clause-formed : goal.returns-clause-formed
returns-clause-formed c =
    let tree = tree_view c.in_ok-tree.tree in
    tree_of_text-well_formed c.args.text.now tree (rw c.in_ok-tree.ensures.gives refl)

pub returns-clause-alone : goal.returns-clause-alone
returns-clause-alone c =
    λ other formed same. tree-alone c.args.text.now (tree_view c.in_ok-tree.tree) other
    (rw c.in_ok-tree.ensures.gives refl) formed same

pub returns-in_err-tree-clause-outside : goal.returns-in_err-tree-clause-outside
returns-in_err-tree-clause-outside c =
    let is = err_from_is_err_and c.from_residual.result c.from_residual.ensures.1 in
    let fault = c.in_err-tree.field-0.0 in
    rw (is.1, is.2) (tree-outside c.args.text.now fault
    (AgreesErr-bind no_memory fault _ _ c.in_err-tree.ensures.gives))

pub returns-in_err-tree-clause-placed : goal.returns-in_err-tree-clause-placed
returns-in_err-tree-clause-placed c =
    let is = err_from_is_err_and c.from_residual.result c.from_residual.ensures.1 in
    let fault = c.in_err-tree.field-0.0 in
    rw (is.1, is.2) (tree-placed c.args.text.now fault
    (AgreesErr-bind no_memory fault _ _ c.in_err-tree.ensures.gives))
