-- Suffixes of which none is found.
use Rattle.std.proofs.Common.{◌≡◌, ◌∙◌, ℕ, ◌||◌, not, Bool, true}
use Rattle.std.proofs.Common.{false, List, [], ◌∷◌, ◌++◌, refl, ap}
use Rattle.std.proofs.Common.{Option, Some, None}
use Rattle.std.proofs.lemmas.Bool.{and_right}
use Rattle.std.proofs.lemmas.List.Folds.{list_any-append}
use Rattle.std.specs.List.{list_any}
use Rattle.std.specs.Str.{bytes_eq}
use Rattle.mk_suffix.specs.Chains.{first_of}
use Rattle.mk_suffix.specs.Extends.{NoneFound, Found}
use Rattle.mk_suffix.specs.Found.{is_there}
use Rattle.mk_suffix.specs.Search.{Way, reached}
use Rattle.mk_suffix.specs.Search.{is_source, own_way}
use Rattle.mk_suffix.specs.declared.step.Hit.{Hit}
use Rattle.mk_suffix.proofs.SearchLemmas.{reached-append}
use Rattle.mk_suffix.proofs.SearchLemmas.{own_is_none}

-- the own suffix is that of no source
pub own_none : (found : List ℕ → Bool) (base own : List ℕ)
    → list_any (is_source found base own) (reached (own_way own ∷ [])) ≡ false
own_none found base own = rw (own_is_none found base own) refl

pub NoneFound-push : (found : List ℕ → Bool) (base : List ℕ) (old now : List Way) (way : Way)
    (suffix : List ℕ) → first_of way.suffixes ≡ suffix → found (base ++ suffix) ≡ false
    → NoneFound found base old now → NoneFound found base old (now ++ way ∷ [])
NoneFound-push found base old now way suffix is not_found none own =
    let q = is_source found base own in
    let fails : q suffix ≡ false =
    and_right (not (bytes_eq own suffix)) (found (base ++ suffix)) not_found in
    ap (list_any q) (reached-append now way ∙ ap (λ x. reached now ++ x ∷ []) is)
    ∙ (list_any-append q (reached now) (suffix ∷ [])
    ∙ (ap (λ b. list_any q (reached now) || (b || false)) fails
    ∙ (or-false (list_any q (reached now)) ∙ none own)))
  where
    or-false : (b : Bool) → (b || false) ≡ b
    or-false true = refl
    or-false false = refl

-- one part after the other
pub Found-then : (place : List ℕ → Option (List ℕ)) (base : List ℕ) (old now new : List Way)
    (hit : Option Hit) → NoneFound (is_there place) base old now → Found place base now new hit
    → Found place base old new hit
Found-then place base old now new None first second = λ own. second own ∙ first own
Found-then place base old now new (Some hit) first second =
    (λ own. second.0 own ∙ first own, second.1)
