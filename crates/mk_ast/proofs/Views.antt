-- A tree of the code as plain data, one level at a time.
use Rattle.std.proofs.Common.{◌≡◌, ℕ, Bool, List, [], ◌∷◌, ◌++◌, Some, None, refl, ap, rules}
use Rattle.mk_ast.specs.Tree.{end, part, mod_then, tree_append, mods_append, plain, escaped, double}
use Rattle.mk_ast.specs.Tree.{lone, short, ref, keep, without, subst, head, tail, root, extension}
use Rattle.mk_ast.specs.Tree.{sort, sort_back, unique, lower, upper, quote, quote_dollar, separator}
use Rattle.mk_ast.specs.Tree.{one_word, many_words, select, range, range_to, if_undefined}
use Rattle.mk_ast.specs.Tree.{if_defined, name_of, choose, each, suffix, empty}
use Rattle.mk_ast.specs.View.{part_view, mod_view, tree_view, mods_view}
use Rattle.mk_ast.specs.declared.tree.Part.{Part, Plain, Escaped, Double, Lone, Short, Named, Ref}
use Rattle.mk_ast.specs.declared.tree.Part.{the_lemmas}
use Rattle.mk_ast.specs.declared.tree.ModTree.{ModTree, Keep, Without, Subst, Head, Tail, Root}
use Rattle.mk_ast.specs.declared.tree.ModTree.{Extension, Sort, SortBack, Unique, Lower, Upper}
use Rattle.mk_ast.specs.declared.tree.ModTree.{Quote, QuoteDollar, Separator, OneWord, ManyWords}
use Rattle.mk_ast.specs.declared.tree.ModTree.{Select, Range, IfUndefined, IfDefined, NameOf}
use Rattle.mk_ast.specs.declared.tree.ModTree.{Choose, Each, Suffix, Empty}

pub view-Plain : (bytes : List ℕ) → part_view (Plain bytes) ≡ plain bytes
view-Plain bytes = search (rules, the_lemmas)

pub view-Escaped : (byte : ℕ) → part_view (Escaped byte) ≡ escaped byte
view-Escaped byte = search (rules, the_lemmas)

pub view-Double : part_view Double ≡ double
view-Double = search (rules, the_lemmas)

pub view-Lone : part_view Lone ≡ lone
view-Lone = search (rules, the_lemmas)

pub view-Short : (byte : ℕ) → part_view (Short byte) ≡ short byte
view-Short byte = search (rules, the_lemmas)

pub view-Named : (round : Bool) (name : List ℕ) (mods : List ModTree)
    → part_view (Named round name mods) ≡ ref round (part (plain name) end) (mods_view mods)
view-Named round name mods = search (rules, the_lemmas)

pub view-Ref : (round : Bool) (name : List Part) (mods : List ModTree)
    → part_view (Ref round name mods) ≡ ref round (tree_view name) (mods_view mods)
view-Ref round name mods = search (rules, the_lemmas)

pub view-Keep : (text : List Part) → mod_view (Keep text) ≡ keep (tree_view text)
view-Keep text = search (rules, the_lemmas)

pub view-Without : (text : List Part) → mod_view (Without text) ≡ without (tree_view text)
view-Without text = search (rules, the_lemmas)

pub view-Subst : (delim : ℕ) (from to : List Part) (flags : List ℕ)
    → mod_view (Subst delim from to flags) ≡ subst delim (tree_view from) (tree_view to) flags
view-Subst delim from to flags = search (rules, the_lemmas)

pub view-Head : mod_view Head ≡ head
view-Head = search (rules, the_lemmas)

pub view-Tail : mod_view Tail ≡ tail
view-Tail = search (rules, the_lemmas)

pub view-Root : mod_view Root ≡ root
view-Root = search (rules, the_lemmas)

pub view-Extension : mod_view Extension ≡ extension
view-Extension = search (rules, the_lemmas)

pub view-Sort : mod_view Sort ≡ sort
view-Sort = search (rules, the_lemmas)

pub view-SortBack : mod_view SortBack ≡ sort_back
view-SortBack = search (rules, the_lemmas)

pub view-Unique : mod_view Unique ≡ unique
view-Unique = search (rules, the_lemmas)

pub view-Lower : mod_view Lower ≡ lower
view-Lower = search (rules, the_lemmas)

pub view-Upper : mod_view Upper ≡ upper
view-Upper = search (rules, the_lemmas)

pub view-Quote : mod_view Quote ≡ quote
view-Quote = search (rules, the_lemmas)

pub view-QuoteDollar : mod_view QuoteDollar ≡ quote_dollar
view-QuoteDollar = search (rules, the_lemmas)

pub view-Separator : (written : List ℕ) → mod_view (Separator written) ≡ separator written
view-Separator written = search (rules, the_lemmas)

pub view-OneWord : (written : List ℕ) → mod_view (OneWord written) ≡ one_word written
view-OneWord written = search (rules, the_lemmas)

pub view-ManyWords : (written : List ℕ) → mod_view (ManyWords written) ≡ many_words written
view-ManyWords written = search (rules, the_lemmas)

pub view-Select : (text : List Part) → mod_view (Select text) ≡ select (tree_view text)
view-Select text = search (rules, the_lemmas)

pub view-Range : mod_view (Range None) ≡ range
view-Range = search (rules, the_lemmas)

pub view-RangeTo : (text : List Part) → mod_view (Range (Some text)) ≡ range_to (tree_view text)
view-RangeTo text = search (rules, the_lemmas)

pub view-IfUndefined : (text : List Part)
    → mod_view (IfUndefined text) ≡ if_undefined (tree_view text)
view-IfUndefined text = search (rules, the_lemmas)

pub view-IfDefined : (text : List Part) → mod_view (IfDefined text) ≡ if_defined (tree_view text)
view-IfDefined text = search (rules, the_lemmas)

pub view-NameOf : mod_view NameOf ≡ name_of
view-NameOf = search (rules, the_lemmas)

pub view-Choose : (first second : List Part)
    → mod_view (Choose first second) ≡ choose (tree_view first) (tree_view second)
view-Choose first second = search (rules, the_lemmas)

pub view-Each : (name : List ℕ) (body : List Part)
    → mod_view (Each name body) ≡ each name (tree_view body)
view-Each name body = search (rules, the_lemmas)

pub view-Suffix : (old new : List Part)
    → mod_view (Suffix old new) ≡ suffix (tree_view old) (tree_view new)
view-Suffix old new = search (rules, the_lemmas)

pub view-Empty : mod_view Empty ≡ empty
view-Empty = search (rules, the_lemmas)

pub ruleset views = (
  view-Plain,
  view-Escaped,
  view-Double,
  view-Lone,
  view-Short,
  view-Named,
  view-Ref,
  view-Keep,
  view-Without,
  view-Subst,
  view-Head,
  view-Tail,
  view-Root,
  view-Extension,
  view-Sort,
  view-SortBack,
  view-Unique,
  view-Lower,
  view-Upper,
  view-Quote,
  view-QuoteDollar,
  view-Separator,
  view-OneWord,
  view-ManyWords,
  view-Select,
  view-Range,
  view-RangeTo,
  view-IfUndefined,
  view-IfDefined,
  view-NameOf,
  view-Choose,
  view-Each,
  view-Suffix,
  view-Empty,
)

pub tree_view-append : (parts more : List Part)
    → tree_view (parts ++ more) ≡ tree_append (tree_view parts) (tree_view more)
tree_view-append [] more = refl
tree_view-append (p ∷ parts) more = ap (part (part_view p)) (tree_view-append parts more)

pub mods_view-append : (mods more : List ModTree)
    → mods_view (mods ++ more) ≡ mods_append (mods_view mods) (mods_view more)
mods_view-append [] more = refl
mods_view-append (m ∷ mods) more = ap (mod_then (mod_view m)) (mods_view-append mods more)
