-- How one level of a tree of the code refers to the newer sources.
use Rattle.std.proofs.Common.{◌≡◌, ℕ, ◌+◌, ◌<◌, ◌≤◌, ◌||◌, Bool, true, false, List, [], ◌∷◌, Some, None}
use Rattle.std.proofs.Common.{length, drop, get_or, refl, sym, ap, ◌∙◌}
use Rattle.std.proofs.lemmas.List.{drop_more, at_drop_all}
use Rattle.mk_ast.specs.View.{part_view, mod_view, tree_view, mods_view}
use Rattle.mk_ast.specs.declared.tree.Part.{Part, Plain, Escaped, Double, Lone, Short, Named, Ref}
use Rattle.mk_ast.specs.declared.tree.ModTree.{ModTree, Keep, Without, Subst, Head, Tail, Root}
use Rattle.mk_ast.specs.declared.tree.ModTree.{Extension, Sort, SortBack, Unique, Lower, Upper}
use Rattle.mk_ast.specs.declared.tree.ModTree.{Quote, QuoteDollar, Separator, OneWord, ManyWords}
use Rattle.mk_ast.specs.declared.tree.ModTree.{Select, Range, IfUndefined, IfDefined, NameOf}
use Rattle.mk_ast.specs.declared.tree.ModTree.{Choose, Each, Suffix, Empty}
use Rattle.mk_ast.proofs.Views.{view-Plain, view-Escaped, view-Double, view-Lone, view-Short}
use Rattle.mk_ast.proofs.Views.{view-Named, view-Ref, view-Keep, view-Without, view-Subst, view-Head, view-Tail}
use Rattle.mk_ast.proofs.Views.{view-Root, view-Extension, view-Sort, view-SortBack, view-Unique}
use Rattle.mk_ast.proofs.Views.{view-Lower, view-Upper, view-Quote, view-QuoteDollar}
use Rattle.mk_ast.proofs.Views.{view-Separator, view-OneWord, view-ManyWords, view-Select}
use Rattle.mk_ast.proofs.Views.{view-Range, view-RangeTo, view-IfUndefined, view-IfDefined}
use Rattle.mk_ast.proofs.Views.{view-NameOf, view-Choose, view-Each, view-Suffix, view-Empty}
use Rattle.mk_plan.specs.Oodate.{is_oodate, is_plain_oodate, refers, part_refers, mods_refer}
use Rattle.mk_plan.specs.Oodate.{mod_refers}

pub refers-Plain : (bytes : List ℕ)
    → part_refers (part_view (Plain bytes)) ≡ false
unfolding refers
refers-Plain bytes = rw (view-Plain bytes) refl

pub refers-Escaped : (byte : ℕ)
    → part_refers (part_view (Escaped byte)) ≡ false
unfolding refers
refers-Escaped byte = rw (view-Escaped byte) refl

pub refers-Double : part_refers (part_view Double) ≡ false
unfolding refers
refers-Double = rw view-Double refl

pub refers-Lone : part_refers (part_view Lone) ≡ false
unfolding refers
refers-Lone = rw view-Lone refl

pub refers-Short : (byte : ℕ)
    → part_refers (part_view (Short byte)) ≡ is_oodate (byte ∷ [])
unfolding refers
refers-Short byte = rw (view-Short byte) refl

named-refers : (first second : Bool) → (first || (false || false) || second) ≡ (first || second)
named-refers true second = refl
named-refers false second = refl

pub refers-Named : (round : Bool) (name : List ℕ) (mods : List ModTree)
    → part_refers (part_view (Named round name mods)) ≡ (is_oodate name || mods_refer (mods_view mods))
unfolding refers
refers-Named round name mods =
    rw (view-Named round name mods) (named-refers (is_oodate name) (mods_refer (mods_view mods)))

pub refers-Ref : (round : Bool) (name : List Part) (mods : List ModTree)
    → part_refers (part_view (Ref round name mods))
    ≡ (is_plain_oodate (tree_view name) || refers (tree_view name) || mods_refer (mods_view mods))
unfolding refers
refers-Ref round name mods = rw (view-Ref round name mods) refl

pub refers-Keep : (text : List Part)
    → mod_refers (mod_view (Keep text)) ≡ refers (tree_view text)
unfolding refers
refers-Keep text = rw (view-Keep text) refl

pub refers-Without : (text : List Part)
    → mod_refers (mod_view (Without text)) ≡ refers (tree_view text)
unfolding refers
refers-Without text = rw (view-Without text) refl

pub refers-Subst : (delim : ℕ) (from to : List Part) (flags : List ℕ)
    → mod_refers (mod_view (Subst delim from to flags))
    ≡ (refers (tree_view from) || refers (tree_view to))
unfolding refers
refers-Subst delim from to flags = rw (view-Subst delim from to flags) refl

pub refers-Head : mod_refers (mod_view Head) ≡ false
unfolding refers
refers-Head = rw view-Head refl

pub refers-Tail : mod_refers (mod_view Tail) ≡ false
unfolding refers
refers-Tail = rw view-Tail refl

pub refers-Root : mod_refers (mod_view Root) ≡ false
unfolding refers
refers-Root = rw view-Root refl

pub refers-Extension : mod_refers (mod_view Extension) ≡ false
unfolding refers
refers-Extension = rw view-Extension refl

pub refers-Sort : mod_refers (mod_view Sort) ≡ false
unfolding refers
refers-Sort = rw view-Sort refl

pub refers-SortBack : mod_refers (mod_view SortBack) ≡ false
unfolding refers
refers-SortBack = rw view-SortBack refl

pub refers-Unique : mod_refers (mod_view Unique) ≡ false
unfolding refers
refers-Unique = rw view-Unique refl

pub refers-Lower : mod_refers (mod_view Lower) ≡ false
unfolding refers
refers-Lower = rw view-Lower refl

pub refers-Upper : mod_refers (mod_view Upper) ≡ false
unfolding refers
refers-Upper = rw view-Upper refl

pub refers-Quote : mod_refers (mod_view Quote) ≡ false
unfolding refers
refers-Quote = rw view-Quote refl

pub refers-QuoteDollar : mod_refers (mod_view QuoteDollar) ≡ false
unfolding refers
refers-QuoteDollar = rw view-QuoteDollar refl

pub refers-Separator : (written : List ℕ)
    → mod_refers (mod_view (Separator written)) ≡ false
unfolding refers
refers-Separator written = rw (view-Separator written) refl

pub refers-OneWord : (written : List ℕ)
    → mod_refers (mod_view (OneWord written)) ≡ false
unfolding refers
refers-OneWord written = rw (view-OneWord written) refl

pub refers-ManyWords : (written : List ℕ)
    → mod_refers (mod_view (ManyWords written)) ≡ false
unfolding refers
refers-ManyWords written = rw (view-ManyWords written) refl

pub refers-Select : (text : List Part)
    → mod_refers (mod_view (Select text)) ≡ refers (tree_view text)
unfolding refers
refers-Select text = rw (view-Select text) refl

pub refers-Range : mod_refers (mod_view (Range None)) ≡ false
unfolding refers
refers-Range = rw view-Range refl

pub refers-RangeTo : (text : List Part)
    → mod_refers (mod_view (Range (Some text))) ≡ refers (tree_view text)
unfolding refers
refers-RangeTo text = rw (view-RangeTo text) refl

pub refers-IfUndefined : (text : List Part)
    → mod_refers (mod_view (IfUndefined text)) ≡ refers (tree_view text)
unfolding refers
refers-IfUndefined text = rw (view-IfUndefined text) refl

pub refers-IfDefined : (text : List Part)
    → mod_refers (mod_view (IfDefined text)) ≡ refers (tree_view text)
unfolding refers
refers-IfDefined text = rw (view-IfDefined text) refl

pub refers-NameOf : mod_refers (mod_view NameOf) ≡ false
unfolding refers
refers-NameOf = rw view-NameOf refl

pub refers-Choose : (first second : List Part)
    → mod_refers (mod_view (Choose first second))
    ≡ (refers (tree_view first) || refers (tree_view second))
unfolding refers
refers-Choose first second = rw (view-Choose first second) refl

pub refers-Each : (name : List ℕ) (body : List Part)
    → mod_refers (mod_view (Each name body)) ≡ refers (tree_view body)
unfolding refers
refers-Each name body = rw (view-Each name body) refl

pub refers-Suffix : (old new : List Part)
    → mod_refers (mod_view (Suffix old new))
    ≡ (refers (tree_view old) || refers (tree_view new))
unfolding refers
refers-Suffix old new = rw (view-Suffix old new) refl

pub refers-Empty : mod_refers (mod_view Empty) ≡ false
unfolding refers
refers-Empty = rw view-Empty refl

pub ruleset referring = (
  refers-Plain,
  refers-Escaped,
  refers-Double,
  refers-Lone,
  refers-Short,
  refers-Named,
  refers-Ref,
  refers-Keep,
  refers-Without,
  refers-Subst,
  refers-Head,
  refers-Tail,
  refers-Root,
  refers-Extension,
  refers-Sort,
  refers-SortBack,
  refers-Unique,
  refers-Lower,
  refers-Upper,
  refers-Quote,
  refers-QuoteDollar,
  refers-Separator,
  refers-OneWord,
  refers-ManyWords,
  refers-Select,
  refers-Range,
  refers-RangeTo,
  refers-IfUndefined,
  refers-IfDefined,
  refers-NameOf,
  refers-Choose,
  refers-Each,
  refers-Suffix,
  refers-Empty,
)

-- a name that is not one part
pub plain-other : (parts : List Part) → (length parts ≡ 1 → ⊥)
    → is_plain_oodate (tree_view parts) ≡ false
plain-other [] other = refl
plain-other (q ∷ []) other = absurd (other refl)
plain-other (q ∷ r ∷ parts) other = refl

-- the parts from a place on
pub refers-part : (parts : List Part) (i : ℕ) (p : Part) → i < length parts → p ≡ get_or parts i p
    → refers (tree_view (drop i parts))
    ≡ (part_refers (part_view p) || refers (tree_view (drop (i + 1) parts)))
unfolding refers
refers-part parts i p within is =
    ap (λ (rest : List Part). refers (tree_view rest)) (drop_more parts i p within)
    ∙ ap (λ (one : Part). refers (tree_view (one ∷ drop (i + 1) parts))) (sym is)

pub refers-end : (parts : List Part) (i : ℕ) → length parts ≤ i
    → refers (tree_view (drop i parts)) ≡ false
unfolding refers
refers-end parts i past = at_drop_all (λ (rest : List Part). refers (tree_view rest)) parts i past

-- the modifiers from a place on
pub mods_refer-mod : (mods : List ModTree) (i : ℕ) (m : ModTree) → i < length mods
    → m ≡ get_or mods i m
    → mods_refer (mods_view (drop i mods))
    ≡ (mod_refers (mod_view m) || mods_refer (mods_view (drop (i + 1) mods)))
unfolding refers
mods_refer-mod mods i m within is =
    ap (λ (rest : List ModTree). mods_refer (mods_view rest)) (drop_more mods i m within)
    ∙ ap (λ (one : ModTree). mods_refer (mods_view (one ∷ drop (i + 1) mods))) (sym is)

pub mods_refer-end : (mods : List ModTree) (i : ℕ) → length mods ≤ i
    → mods_refer (mods_view (drop i mods)) ≡ false
unfolding refers
mods_refer-end mods i past =
    at_drop_all (λ (rest : List ModTree). mods_refer (mods_view rest)) mods i past
