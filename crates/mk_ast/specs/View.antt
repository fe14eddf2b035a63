-- The plain data that a tree of the code stands for.
use Rattle.std.specs.Prelude.{List, [], ◌∷◌, Option, Some, None, map}
use Rattle.mk_ast.specs.Tree as tree
use Rattle.mk_ast.specs.Tree.{Tree, Part, Mods, Mod, end, part, no_mods, mod_then}
use Rattle.mk_ast.specs.declared.tree.Part.{Part as CodePart, fold-Part}
use Rattle.mk_ast.specs.declared.tree.ModTree.{ModTree, fold-ModTree}
use Rattle.mk_ast.specs.declared.tree.ModTree.TheOpen.{ModTree-F, Part-F}

abbrev pub tree_of : List Part → Tree
tree_of [] = end
tree_of (p ∷ parts) = part p (tree_of parts)

abbrev pub mods_of : List Mod → Mods
mods_of [] = no_mods
mods_of (m ∷ mods) = mod_then m (mods_of mods)

abbrev pub range_of : Option (List Part) → Mod
range_of None = tree.range
range_of (Some count) = tree.range_to (tree_of count)

-- one modifier, with the trees inside it already seen
abbrev pub mod_step : ModTree-F Mod Part → Mod
mod_step (ModTree-F.Keep pattern) = tree.keep (tree_of pattern)
mod_step (ModTree-F.Without pattern) = tree.without (tree_of pattern)
mod_step (ModTree-F.Subst delim from to flags) = tree.subst delim (tree_of from) (tree_of to) flags
mod_step ModTree-F.Head = tree.head
mod_step ModTree-F.Tail = tree.tail
mod_step ModTree-F.Root = tree.root
mod_step ModTree-F.Extension = tree.extension
mod_step ModTree-F.Sort = tree.sort
mod_step ModTree-F.SortBack = tree.sort_back
mod_step ModTree-F.Unique = tree.unique
mod_step ModTree-F.Lower = tree.lower
mod_step ModTree-F.Upper = tree.upper
mod_step ModTree-F.Quote = tree.quote
mod_step ModTree-F.QuoteDollar = tree.quote_dollar
mod_step (ModTree-F.Separator written) = tree.separator written
mod_step (ModTree-F.OneWord written) = tree.one_word written
mod_step (ModTree-F.ManyWords written) = tree.many_words written
mod_step (ModTree-F.Select places) = tree.select (tree_of places)
mod_step (ModTree-F.Range count) = range_of count
mod_step (ModTree-F.IfUndefined text) = tree.if_undefined (tree_of text)
mod_step (ModTree-F.IfDefined text) = tree.if_defined (tree_of text)
mod_step ModTree-F.NameOf = tree.name_of
mod_step (ModTree-F.Choose first second) = tree.choose (tree_of first) (tree_of second)
mod_step (ModTree-F.Each name body) = tree.each name (tree_of body)
mod_step (ModTree-F.Suffix old new) = tree.suffix (tree_of old) (tree_of new)
mod_step ModTree-F.Empty = tree.empty

-- one part, with the trees inside it already seen
abbrev pub part_step : Part-F Mod Part → Part
part_step (Part-F.Plain bytes) = tree.plain bytes
part_step (Part-F.Escaped byte) = tree.escaped byte
part_step Part-F.Double = tree.double
part_step Part-F.Lone = tree.lone
part_step (Part-F.Short byte) = tree.short byte
part_step (Part-F.Ref round name mods) = tree.ref round (tree_of name) (mods_of mods)
part_step (Part-F.Named round name mods) =
    tree.ref round (part (tree.plain name) end) (mods_of mods)

abbrev pub part_view : CodePart → Part
part_view = fold-Part Mod Part mod_step part_step

abbrev pub mod_view : ModTree → Mod
mod_view = fold-ModTree Mod Part mod_step part_step

abbrev pub tree_view : List CodePart → Tree
tree_view parts = tree_of (map part_view parts)

abbrev pub mods_view : List ModTree → Mods
mods_view mods = mods_of (map mod_view mods)
