-- The entries of a map against the pairs that they stand for.
use Rattle.std.proofs.Common.{◌≡◌, ℕ, cond, List, [], ◌∷◌, Some, refl, ap, Vec, Global}
use Rattle.indexmap.specs.IndexMap.{insert_entry}
use Rattle.std.proofs.lemmas.Bool.{cond_both}
use Rattle.std.specs.Map.{lookup}
use Rattle.std.specs.Str.{bytes_eq}
use Rattle.mk_scopes.specs.Entries.{pairs_of}
use Rattle.mk_scopes.specs.Tables.{value_in, assigned}

pub lookup-pairs : (name : List ℕ) (entries : List (Vec ℕ Global × List ℕ))
    → lookup (λ key. bytes_eq name key.items) entries ≡ value_in (pairs_of entries) name
lookup-pairs name [] = refl
lookup-pairs name (e ∷ es) =
    ap (λ o. cond (bytes_eq name e.0.items) (Some e.1) o) (lookup-pairs name es)

pub insert_entry-pairs : (key : Vec ℕ Global) (value : List ℕ)
    (entries : List (Vec ℕ Global × List ℕ))
    → pairs_of (insert_entry (λ a b. bytes_eq a.items b.items) entries key value)
    ≡ assigned (pairs_of entries) key.items value
insert_entry-pairs key value [] = refl
insert_entry-pairs key value (e ∷ es) =
    cond_both (bytes_eq key.items e.0.items) ((e.0, value) ∷ es)
    (e ∷ insert_entry (λ a b. bytes_eq a.items b.items) es key value)
    (λ r. pairs_of r ≡ assigned (pairs_of (e ∷ es)) key.items value)
    (λ is. rw is refl)
    (λ is. rw is
    (ap (λ r. record { name = e.0.items; value = e.1 } ∷ r) (insert_entry-pairs key value es)))
