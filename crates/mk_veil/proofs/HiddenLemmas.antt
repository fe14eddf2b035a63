-- The hidden paths, in the set that holds them.
use Rattle.std.proofs.Common.{◌≡◌, ℕ, Bool, true, false, ◌||◌, cond, List, [], ◌∷◌, ◌++◌, refl, sym, ap, ◌∙◌, subst, Vec, Global}
use Rattle.std.proofs.lemmas.List.Folds.{list_any-append}
use Rattle.std.specs.List.{list_any}
use Rattle.std.specs.Str.{bytes_eq}
use Rattle.indexmap.specs.IndexSet.{insert_key}
use Rattle.mk_bytes.specs.Texts.{is_among}
use Rattle.mk_filemon.proofs.EscapeLemmas.{cases}
use Rattle.mk_filemon.proofs.PathLemmas.{same_bytes}
use Rattle.mk_veil.specs.Held.{texts_of}

abbrev Keys : Type 0
Keys = List (Vec ℕ Global)

abbrev are_same : Vec ℕ Global → Vec ℕ Global → Bool
are_same one other = bytes_eq one.items other.items

-- a set has a path
pub has-keys : (keys : Keys) (path : List ℕ)
    → list_any (λ key. bytes_eq path key.items) keys ≡ is_among (texts_of keys) path
has-keys [] path = refl
has-keys (first ∷ keys) path = ap (λ b. bytes_eq path first.items || b) (has-keys keys path)

or-turned : (a b : Bool) → (a || (b || false)) ≡ (b || a)
or-turned true true = refl
or-turned true false = refl
or-turned false true = refl
or-turned false false = refl

pushed : (keys : Keys) (key : Vec ℕ Global) (other : List ℕ)
    → list_any (λ one. bytes_eq other one.items) (keys ++ key ∷ [])
    ≡ (bytes_eq other key.items || list_any (λ one. bytes_eq other one.items) keys)
pushed keys key other =
    list_any-append (λ one. bytes_eq other one.items) keys (key ∷ [])
    ∙ or-turned (list_any (λ one. bytes_eq other one.items) keys) (bytes_eq other key.items)

-- a set with one more path
pub more-keys : (keys new : Keys) (key : Vec ℕ Global) (paths : List (List ℕ)) (path : List ℕ)
    → texts_of keys ≡ paths → key.items ≡ path → new ≡ insert_key are_same keys key → (other : List ℕ)
    → is_among (texts_of new) other ≡ (bytes_eq other path || is_among paths other)
more-keys keys new key paths path are holds is other =
    sym (has-keys new other)
    ∙ ap (list_any (λ one. bytes_eq other one.items)) is
    ∙ cases (list_any (are_same key) keys)
    (λ there. rw there (by (bytes_eq other key.items) refl there))
    (λ fresh. rw fresh (pushed keys key other))
    ∙ ap (λ b. bytes_eq other key.items || b) (has-keys keys other)
    ∙ ap (λ b. bytes_eq other key.items || b) (ap (λ l. is_among l other) are)
    ∙ ap (λ one. bytes_eq other one || is_among paths other) holds
  where
    by : (b : Bool) → bytes_eq other key.items ≡ b → list_any (are_same key) keys ≡ true
        → list_any (λ one. bytes_eq other one.items) keys
        ≡ (b || list_any (λ one. bytes_eq other one.items) keys)
    by true same there =
        subst (λ bytes. list_any (λ one. bytes_eq bytes one.items) keys ≡ true)
        (sym (same_bytes other key.items same)) there
    by false same there = refl
