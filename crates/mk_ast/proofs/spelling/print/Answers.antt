use Rattle.std.proofs.Common.{◌≡◌, refl, ap, ◌∙◌}
use Rattle.mk_ast.specs.References.{tree_of_text}
use Rattle.mk_ast.specs.Spell.{spell}
use Rattle.mk_ast.specs.View.{tree_view}
use Rattle.mk_ast.proofs.ReadAgain.{tree_of_text-spell, spell-injective}
use Rattle.mk_ast.proofs.spelling.print.Goals as goal

pub returns-clause-read : goal.returns-clause-read
returns-clause-read c =
    let tree = tree_view c.args.tree.now in
    let written : c.put_tree.new.out ≡ spell tree =
    rw (c.in_ok-put_tree.ensures, c.new-out.ensures) refl in
    λ formed. ap tree_of_text written ∙ tree_of_text-spell tree formed

pub returns-clause-alone : goal.returns-clause-alone
returns-clause-alone c =
    let tree = tree_view c.args.tree.now in
    let written : c.put_tree.new.out ≡ spell tree =
    rw (c.in_ok-put_tree.ensures, c.new-out.ensures) refl in
    λ other other_formed same formed. spell-injective other tree other_formed formed
    (same ∙ written)
