-- The spelling of lists of parts and of modifiers, as loops write them.
use Rattle.std.proofs.Common.{◌≡◌, ℕ, ◌+◌, ◌<◌, ◌≤◌, List, [], ◌∷◌, ◌++◌, length, drop, get_or}
use Rattle.std.proofs.Common.{refl, sym, ap, ◌∙◌, append_assoc}
use Rattle.std.proofs.lemmas.List.{drop_more, at_drop_all, append-nil}
use Rattle.mk_bytes.specs.Bytes.{colon}
use Rattle.mk_ast.specs.Spell.{spell, spell_part, spell_mods, spell_mod}
use Rattle.mk_ast.specs.View.{part_view, tree_view, mod_view, mods_view}
use Rattle.mk_ast.specs.declared.tree.Part.{Part}
use Rattle.mk_ast.specs.declared.tree.ModTree.{ModTree}

-- what a loop over a list has written, and what the rest of the list adds
abbrev pub Wrote : {A : Type 0} → (List A → List ℕ) → List ℕ → List ℕ → List A → ℕ → Type 0
Wrote spelled total out items i = out ++ spelled (drop i items) ≡ total

-- one turn: the item at `i` adds its own spelling
turn : {A : Type 0} (spelled : List A → List ℕ) (one : A → List ℕ)
    → ((x : A) (xs : List A) → spelled (x ∷ xs) ≡ one x ++ spelled xs)
    → (total out : List ℕ) (items : List A) (i : ℕ) (x : A) → i < length items → x
    ≡ get_or items i x
    → Wrote spelled total out items i → Wrote spelled total (out ++ one x) items (i + 1)
turn {A} spelled one cons total out items i x within is wrote =
    append_assoc out (one x) (spelled (drop (i + 1) items))
    ∙ ap (λ s. out ++ s) (sym (cons x (drop (i + 1) items)))
    ∙ ap (λ (y : A). out ++ spelled (y ∷ drop (i + 1) items)) is
    ∙ ap (λ (ys : List A). out ++ spelled ys) (sym (drop_more items i x within)) ∙ wrote

-- after the last item all is written
done : {A : Type 0} (spelled : List A → List ℕ) → spelled [] ≡ []
    → (total out : List ℕ) (items : List A) (i : ℕ)
    → length items ≤ i → Wrote spelled total out items i → out ≡ total
done spelled none total out items i past wrote =
    sym (append-nil out) ∙ ap (λ s. out ++ s) (sym (at_drop_all spelled items i past ∙ none))
    ∙ wrote

abbrev pub parts_text : List Part → List ℕ
parts_text parts = spell (tree_view parts)

abbrev pub mods_text : List ModTree → List ℕ
mods_text mods = spell_mods (mods_view mods)

pub parts_text-turn : (total out : List ℕ) (parts : List Part) (i : ℕ) (p : Part) → i < length parts
    → p ≡ get_or parts i p
    → Wrote parts_text total out parts i
    → Wrote parts_text total (out ++ spell_part (part_view p)) parts (i + 1)
unfolding spell
parts_text-turn = turn parts_text (λ p. spell_part (part_view p)) (λ p ps. refl)

pub parts_text-done : (total out : List ℕ) (parts : List Part) (i : ℕ) → length parts ≤ i
    → Wrote parts_text total out parts i → out ≡ total
unfolding spell
parts_text-done = done parts_text refl

pub mods_text-turn : (total out : List ℕ) (mods : List ModTree) (i : ℕ) (m : ModTree)
    → i < length mods → m ≡ get_or mods i m
    → Wrote mods_text total out mods i
    → Wrote mods_text total (out ++ colon ∷ spell_mod (mod_view m)) mods (i + 1)
unfolding spell
mods_text-turn = turn mods_text (λ m. colon ∷ spell_mod (mod_view m)) (λ m ms. refl)

pub mods_text-done : (total out : List ℕ) (mods : List ModTree) (i : ℕ) → length mods ≤ i
    → Wrote mods_text total out mods i → out ≡ total
unfolding spell
mods_text-done = done mods_text refl
