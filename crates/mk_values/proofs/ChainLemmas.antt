-- One step through a chain of modifiers, and through the words of `:@`.
use Rattle.std.proofs.Common.{◌≡◌, ℕ, ◌+◌, ◌<◌, ◌≤◌, false, List, [], ◌∷◌, Ok, length, drop, get_or, refl, Err}
use Rattle.std.proofs.Common.{sym, ap, ◌∙◌, rules}
use Rattle.std.proofs.lemmas.List.{drop_more, at_drop_all, append-nil}
use Rattle.mk_ast.specs.Tree.{Tree, no_mods, mod_then, if_undefined}
use Rattle.mk_ast.specs.View.{mod_view, mods_view}
use Rattle.mk_ast.specs.declared.tree.ModTree.{ModTree, IfUndefined, IfDefined, NameOf, Choose}
use Rattle.mk_ast.specs.declared.tree.ModTree.{Each, the_lemmas}
use Rattle.mk_ast.specs.declared.tree.Part.{Part}
use Rattle.mk_ast.proofs.Views.{views}
use Rattle.mk_pieces.specs.Pieces.{bytes_of, texts_of}
use Rattle.mk_mods.specs.Results.{with_result}
use Rattle.mk_mods.specs.State.{State, plain, text_of}
use Rattle.mk_pool.specs.declared.region.Piece.{Piece}
use Rattle.mk_values.specs.Chains.{Chain, modified, given_modified, word_modified, all_modified}
use Rattle.mk_values.specs.Chains.{chained, chain_of, each_behind, found_as, given}
use Rattle.mk_values.specs.ModFaults.{with_fault}
use Rattle.mk_values.specs.Evaluators.{Answer, Finder, Progress, ◌>>=◌, gives, tried}
use Rattle.mk_values.specs.Names.{Context, while_bound}
use Rattle.mk_values.specs.Parts.{tree_value}
use Rattle.mk_values.specs.declared.chain.Found.{Found}

pub all_modified-mod : (find : Finder) (c : Context) (p : Progress) (name : List ℕ)
    (chain : Chain) (mods : List ModTree) (i : ℕ) (m : ModTree)
    → i < length mods → m ≡ get_or mods i m
    → all_modified find c p name chain (mods_view (drop i mods))
    ≡ (modified find c p name chain (mod_view m)
    >>= λ more. all_modified find c more.1 name more.0 (mods_view (drop (i + 1) mods)))
unfolding all_modified
all_modified-mod find c p name chain mods i m within is =
    ap (λ (rest : List ModTree). all_modified find c p name chain (mods_view rest))
    (drop_more mods i m within)
    ∙ ap (λ (one : ModTree).
    all_modified find c p name chain (mods_view (one ∷ drop (i + 1) mods))) (sym is)

pub all_modified-end : (find : Finder) (c : Context) (p : Progress) (name : List ℕ)
    (chain : Chain) (mods : List ModTree) (i : ℕ)
    → length mods ≤ i
    → all_modified find c p name chain (mods_view (drop i mods)) ≡ gives chain p
unfolding all_modified
all_modified-end find c p name chain mods i past =
    at_drop_all (λ (rest : List ModTree). all_modified find c p name chain (mods_view rest))
    mods i past

-- the text of a plain text's state is that text
text_of-plain : (text : List ℕ) → text_of (plain text) ≡ text
text_of-plain [] = refl
text_of-plain (byte ∷ bytes) = append-nil (byte ∷ bytes)

pub chained_none : (find : Finder) (c : Context) (p : Progress) (name : List ℕ)
    (found : Found)
    → chained find c p name found no_mods ≡ gives found p
unfolding all_modified
chained_none find c p name found = rw (text_of-plain found.value) refl

-- a text in place of a value without one, with no other modifier
given-found : (find : Finder) (c : Context) (name : List ℕ) (found : Found)
    (value : Answer (List ℕ)) (names : List (List ℕ) → List (List ℕ))
    → ((given (chain_of found) (record { answer = value; names = names })
    >>= λ more. all_modified find c more.1 name more.0 no_mods)
    >>= λ s. gives (record { value = text_of s.0.state; defined = s.0.defined }) s.1)
    ≡ found_as (record { answer = value; names = names })
unfolding all_modified
given-found find c name found (Ok v) names = rw (text_of-plain v.0) refl
given-found find c name found (Err fault) names = refl

pub chained-default : (find : Finder) (c : Context) (p : Progress) (name : List ℕ)
    (found : Found) (text : Tree)
    → found.defined ≡ false
    → chained find c p name found (mod_then (if_undefined text) no_mods)
    ≡ found_as (tree_value find c p text)
unfolding all_modified
chained-default find c p name found text undefined =
    let value = tree_value find c p text in
    rw undefined (given-found find c name found value.answer value.names)

pub each_behind-word : (find : Finder) (c : Context) (p : Progress) (name : List ℕ) (body : Tree)
    (results : State) (region : List ℕ) (words : List Piece) (i : ℕ) (none : Piece)
    → i < length words
    → each_behind find c p name body results (texts_of region (drop i words))
    ≡ (tree_value find (while_bound c name (bytes_of region (get_or words i none))) p body
    >>= λ v. tried (with_fault (with_result results v.0)) v.1
    >>= λ more. each_behind find c more.1 name body more.0 (texts_of region (drop (i + 1) words)))
unfolding each_behind
each_behind-word find c p name body results region words i none within =
    ap (λ (rest : List Piece). each_behind find c p name body results (texts_of region rest))
    (drop_more words i none within)

pub each_behind-end : (find : Finder) (c : Context) (p : Progress) (name : List ℕ) (body : Tree)
    (results : State) (region : List ℕ) (words : List Piece) (i : ℕ)
    → length words ≤ i
    → each_behind find c p name body results (texts_of region (drop i words)) ≡ gives results p
unfolding each_behind
each_behind-end find c p name body results region words i past =
    at_drop_all (λ (rest : List Piece). each_behind find c p name body results (texts_of region rest))
    words i past

-- the other modifiers are those of words
pub modified-words : (find : Finder) (c : Context) (p : Progress) (name : List ℕ) (chain : Chain)
    (m : ModTree)
    → ((text : List Part) → m ≡ IfUndefined text → ⊥)
    → ((text : List Part) → m ≡ IfDefined text → ⊥) → (m ≡ NameOf → ⊥)
    → given_modified find c p name chain (mod_view m) ≡ word_modified find c p chain (mod_view m)
modified-words find c p name chain m undefined defined named =
    search (rules, the_lemmas, views, undefined, defined, named)

pub modified-given : (find : Finder) (c : Context) (p : Progress) (name : List ℕ) (chain : Chain)
    (m : ModTree)
    → ((first second : List Part) → m ≡ Choose first second → ⊥)
    → ((variable : List ℕ) (body : List Part) → m ≡ Each variable body → ⊥)
    → modified find c p name chain (mod_view m) ≡ given_modified find c p name chain (mod_view m)
modified-given find c p name chain m chosen each = search (rules, the_lemmas, views, chosen, each)
