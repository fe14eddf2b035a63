-- Texts, read as a whole before any of them is evaluated.
use Rattle.std.specs.Prelude.{ℕ, ◌==◌, Bool, false, List, Result, Ok, Err}
use Rattle.std.specs.List.{list_any}
use Rattle.mk_bytes.specs.Bytes.{dollar}
use Rattle.mk_ast.specs.References.{tree_of_text}
use Rattle.mk_ast.specs.Tree.{Tree, end, part, plain, ref, no_mods}
use Rattle.mk_ast.specs.declared.fault.AstFault.{AstFault}
use Rattle.mk_ast.specs.declared.fault.AstFault.TheVariants as ast
use Rattle.mk_ast.specs.declared.fault.TreeFault.TheVariants as tree
use Rattle.mk_values.specs.declared.fault.ExpandFault.{ExpandFault}
use Rattle.mk_values.specs.declared.fault.ExpandFault.TheVariants.{Tree as of_grammar, NoMemory}

-- a fault of the grammar; want of memory is what it is everywhere
abbrev pub of_tree : AstFault → ExpandFault
of_tree (ast.Unclosed at) = of_grammar (tree.Unclosed at)
of_tree (ast.UnknownModifier at) = of_grammar (tree.UnknownModifier at)
of_tree (ast.BadModifier at) = of_grammar (tree.BadModifier at)
of_tree (ast.TooDeep at) = of_grammar (tree.TooDeep at)
of_tree ast.NoMemory = NoMemory

abbrev pub with_fault : Result Tree AstFault → Result Tree ExpandFault
with_fault (Ok tree) = Ok tree
with_fault (Err fault) = Err (of_tree fault)

-- the tree of a text, or the fault of the grammar
abbrev pub parsed : List ℕ → Result Tree ExpandFault
parsed text = with_fault (tree_of_text text)

-- one reference to a name without modifiers, whatever bytes the name has
abbrev pub name_tree : List ℕ → Tree
name_tree name = part (ref false (part (plain name) end) no_mods) end

abbrev pub has_dollar : List ℕ → Bool
has_dollar text = list_any (λ byte. byte == dollar) text
