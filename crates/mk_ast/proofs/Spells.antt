-- How one level of a tree of the code is spelled.
use Rattle.std.proofs.Common.{◌≡◌, ℕ, Bool, List, [], ◌∷◌, ◌++◌, Some, None, codes, refl}
use Rattle.std.proofs.lemmas.List.{append-nil}
use Rattle.mk_bytes.specs.Bytes.{dollar, backslash, colon, question_mark, at_sign, equals_sign}
use Rattle.mk_bytes.specs.Bytes.{square_open, square_close}
use Rattle.mk_ast.specs.Spell.{opener, closer, spell, spell_part, spell_mods, spell_mod}
use Rattle.mk_ast.specs.View.{part_view, tree_view, mod_view, mods_view}
use Rattle.mk_ast.specs.declared.tree.Part.{Part, Plain, Escaped, Double, Lone, Short, Named, Ref}
use Rattle.mk_ast.specs.declared.tree.ModTree.{ModTree, Keep, Without, Subst, Head, Tail, Root}
use Rattle.mk_ast.specs.declared.tree.ModTree.{Extension, Sort, SortBack, Unique, Lower, Upper}
use Rattle.mk_ast.specs.declared.tree.ModTree.{Quote, QuoteDollar, Separator, OneWord, ManyWords}
use Rattle.mk_ast.specs.declared.tree.ModTree.{Select, Range, IfUndefined, IfDefined, NameOf}
use Rattle.mk_ast.specs.declared.tree.ModTree.{Choose, Each, Suffix, Empty}
use Rattle.mk_ast.proofs.Views.{view-Plain, view-Escaped, view-Double, view-Lone, view-Short}
use Rattle.mk_ast.proofs.Views.{view-Named, view-Ref, view-Keep, view-Without, view-Subst, view-Head, view-Tail}
use Rattle.mk_ast.proofs.Views.{view-Root, view-Extension, view-Sort, view-SortBack, view-Unique}
use Rattle.mk_ast.proofs.Views.{view-Lower, view-Upper, view-Quote, view-QuoteDollar}
use Rattle.mk_ast.proofs.Views.{view-Separator, view-OneWord, view-ManyWords, view-Select}
use Rattle.mk_ast.proofs.Views.{view-Range, view-RangeTo, view-IfUndefined, view-IfDefined}
use Rattle.mk_ast.proofs.Views.{view-NameOf, view-Choose, view-Each, view-Suffix, view-Empty}

pub spell-Plain : (bytes : List ℕ) → spell_part (part_view (Plain bytes)) ≡ bytes
unfolding spell
spell-Plain bytes = rw (view-Plain bytes) refl

pub spell-Escaped : (byte : ℕ) → spell_part (part_view (Escaped byte)) ≡ backslash ∷ byte ∷ []
unfolding spell
spell-Escaped byte = rw (view-Escaped byte) refl

pub spell-Double : spell_part (part_view Double) ≡ dollar ∷ dollar ∷ []
unfolding spell
spell-Double = rw view-Double refl

pub spell-Lone : spell_part (part_view Lone) ≡ dollar ∷ []
unfolding spell
spell-Lone = rw view-Lone refl

pub spell-Short : (byte : ℕ) → spell_part (part_view (Short byte)) ≡ dollar ∷ byte ∷ []
unfolding spell
spell-Short byte = rw (view-Short byte) refl

pub spell-Named : (round : Bool) (name : List ℕ) (mods : List ModTree)
    → spell_part (part_view (Named round name mods))
    ≡ dollar ∷ opener round ∷ (name ++ (spell_mods (mods_view mods) ++ closer round ∷ []))
unfolding spell
spell-Named round name mods = rw (view-Named round name mods) (simp append-nil)

pub spell-Ref : (round : Bool) (name : List Part) (mods : List ModTree)
    → spell_part (part_view (Ref round name mods))
    ≡ dollar ∷ opener round
    ∷ (spell (tree_view name) ++ (spell_mods (mods_view mods) ++ closer round ∷ []))
unfolding spell
spell-Ref round name mods = rw (view-Ref round name mods) refl

pub spell-Keep : (text : List Part)
    → spell_mod (mod_view (Keep text))
    ≡ codes "M" ++ spell (tree_view text)
unfolding spell
spell-Keep text = rw (view-Keep text) refl

pub spell-Without : (text : List Part)
    → spell_mod (mod_view (Without text))
    ≡ codes "N" ++ spell (tree_view text)
unfolding spell
spell-Without text = rw (view-Without text) refl

pub spell-Subst : (delim : ℕ) (from to : List Part) (flags : List ℕ)
    → spell_mod (mod_view (Subst delim from to flags))
    ≡ codes "S" ++ delim
    ∷ (spell (tree_view from) ++ delim ∷ (spell (tree_view to) ++ delim ∷ flags))
unfolding spell
spell-Subst delim from to flags = rw (view-Subst delim from to flags) refl

pub spell-Head : spell_mod (mod_view Head) ≡ codes "H"
unfolding spell
spell-Head = rw view-Head refl

pub spell-Tail : spell_mod (mod_view Tail) ≡ codes "T"
unfolding spell
spell-Tail = rw view-Tail refl

pub spell-Root : spell_mod (mod_view Root) ≡ codes "R"
unfolding spell
spell-Root = rw view-Root refl

pub spell-Extension : spell_mod (mod_view Extension) ≡ codes "E"
unfolding spell
spell-Extension = rw view-Extension refl

pub spell-Sort : spell_mod (mod_view Sort) ≡ codes "O"
unfolding spell
spell-Sort = rw view-Sort refl

pub spell-SortBack : spell_mod (mod_view SortBack) ≡ codes "Or"
unfolding spell
spell-SortBack = rw view-SortBack refl

pub spell-Unique : spell_mod (mod_view Unique) ≡ codes "u"
unfolding spell
spell-Unique = rw view-Unique refl

pub spell-Lower : spell_mod (mod_view Lower) ≡ codes "tl"
unfolding spell
spell-Lower = rw view-Lower refl

pub spell-Upper : spell_mod (mod_view Upper) ≡ codes "tu"
unfolding spell
spell-Upper = rw view-Upper refl

pub spell-Quote : spell_mod (mod_view Quote) ≡ codes "Q"
unfolding spell
spell-Quote = rw view-Quote refl

pub spell-QuoteDollar : spell_mod (mod_view QuoteDollar) ≡ codes "q"
unfolding spell
spell-QuoteDollar = rw view-QuoteDollar refl

pub spell-Separator : (written : List ℕ)
    → spell_mod (mod_view (Separator written))
    ≡ codes "ts" ++ written
unfolding spell
spell-Separator written = rw (view-Separator written) refl

pub spell-OneWord : (written : List ℕ) → spell_mod (mod_view (OneWord written)) ≡ written
unfolding spell
spell-OneWord written = rw (view-OneWord written) refl

pub spell-ManyWords : (written : List ℕ) → spell_mod (mod_view (ManyWords written)) ≡ written
unfolding spell
spell-ManyWords written = rw (view-ManyWords written) refl

pub spell-Select : (text : List Part)
    → spell_mod (mod_view (Select text))
    ≡ square_open ∷ (spell (tree_view text) ++ square_close ∷ [])
unfolding spell
spell-Select text = rw (view-Select text) refl

pub spell-Range : spell_mod (mod_view (Range None)) ≡ codes "range"
unfolding spell
spell-Range = rw view-Range refl

pub spell-RangeTo : (text : List Part)
    → spell_mod (mod_view (Range (Some text)))
    ≡ codes "range=" ++ spell (tree_view text)
unfolding spell
spell-RangeTo text = rw (view-RangeTo text) refl

pub spell-IfUndefined : (text : List Part)
    → spell_mod (mod_view (IfUndefined text))
    ≡ codes "U" ++ spell (tree_view text)
unfolding spell
spell-IfUndefined text = rw (view-IfUndefined text) refl

pub spell-IfDefined : (text : List Part)
    → spell_mod (mod_view (IfDefined text))
    ≡ codes "D" ++ spell (tree_view text)
unfolding spell
spell-IfDefined text = rw (view-IfDefined text) refl

pub spell-NameOf : spell_mod (mod_view NameOf) ≡ codes "L"
unfolding spell
spell-NameOf = rw view-NameOf refl

pub spell-Choose : (first second : List Part)
    → spell_mod (mod_view (Choose first second))
    ≡ question_mark ∷ (spell (tree_view first) ++ colon ∷ spell (tree_view second))
unfolding spell
spell-Choose first second = rw (view-Choose first second) refl

pub spell-Each : (name : List ℕ) (body : List Part)
    → spell_mod (mod_view (Each name body))
    ≡ at_sign ∷ (name ++ at_sign ∷ (spell (tree_view body) ++ at_sign ∷ []))
unfolding spell
spell-Each name body = rw (view-Each name body) refl

pub spell-Suffix : (old new : List Part)
    → spell_mod (mod_view (Suffix old new))
    ≡ spell (tree_view old) ++ equals_sign ∷ spell (tree_view new)
unfolding spell
spell-Suffix old new = rw (view-Suffix old new) refl

pub spell-Empty : spell_mod (mod_view Empty) ≡ []
unfolding spell
spell-Empty = rw view-Empty refl

pub ruleset spells = (
  spell-Plain,
  spell-Escaped,
  spell-Double,
  spell-Lone,
  spell-Short,
  spell-Named,
  spell-Ref,
  spell-Keep,
  spell-Without,
  spell-Subst,
  spell-Head,
  spell-Tail,
  spell-Root,
  spell-Extension,
  spell-Sort,
  spell-SortBack,
  spell-Unique,
  spell-Lower,
  spell-Upper,
  spell-Quote,
  spell-QuoteDollar,
  spell-Separator,
  spell-OneWord,
  spell-ManyWords,
  spell-Select,
  spell-Range,
  spell-RangeTo,
  spell-IfUndefined,
  spell-IfDefined,
  spell-NameOf,
  spell-Choose,
  spell-Each,
  spell-Suffix,
  spell-Empty,
)
