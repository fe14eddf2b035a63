-- The keys of a set of names, and the names that they stand for.
use Rattle.std.proofs.Common.{◌≡◌, ℕ, Bool, true, false, ◌&&◌, cond, List, [], ◌∷◌, refl, ap, ◌∙◌, Vec, Global, Ordering, Less, Equal, Greater}
use Rattle.std.specs.Cmp.Lexicographic.{slice_cmp}
use Rattle.std.specs.List.{AllByRecursion}
use Rattle.std.specs.List.Sorted.{IsStrictlySortedBy}
use Rattle.std.specs.BTreeSet.{insert_key}
use Rattle.std.specs.Ordering.{is_eq, is_lt, match_ordering, nat_cmp}
use Rattle.std.specs.Set.{remove_key}
use Rattle.mk_export.specs.Names.{AreNames, added, removed, texts_of, unvalued}
use Rattle.mk_meta.specs.Lawful.{are_sorted, is_export_name}

-- the order of keys
abbrev by_items : Vec ℕ Global → Vec ℕ Global → Ordering
by_items one other = slice_cmp nat_cmp one.items other.items

pub texts_of-added : (keys : List (Vec ℕ Global)) (key : Vec ℕ Global)
    → texts_of (insert_key by_items keys key) ≡ added (texts_of keys) key.items
texts_of-added [] key = refl
texts_of-added (first ∷ keys) key = by (by_items key first) (texts_of-added keys key)
  where
    by : (o : Ordering) → texts_of (insert_key by_items keys key) ≡ added (texts_of keys) key.items
        → texts_of (match_ordering o (key ∷ first ∷ keys) (first ∷ keys)
        (first ∷ insert_key by_items keys key))
        ≡ match_ordering o (key.items ∷ first.items ∷ texts_of keys) (first.items ∷ texts_of keys)
        (first.items ∷ added (texts_of keys) key.items)
    by Less more = refl
    by Equal more = refl
    by Greater more = ap (λ l. first.items ∷ l) more

pub texts_of-removed : (keys : List (Vec ℕ Global)) (name : List ℕ)
    → texts_of (remove_key (λ key. is_eq (slice_cmp nat_cmp name key.items)) keys)
    ≡ removed (texts_of keys) name
texts_of-removed [] name = refl
texts_of-removed (first ∷ keys) name =
    by (is_eq (slice_cmp nat_cmp name first.items)) (texts_of-removed keys name)
  where
    rest : List (Vec ℕ Global)
    rest = remove_key (λ key. is_eq (slice_cmp nat_cmp name key.items)) keys

    by : (b : Bool) → texts_of rest ≡ removed (texts_of keys) name
        → texts_of (cond b keys (first ∷ rest))
        ≡ cond b (texts_of keys) (first.items ∷ removed (texts_of keys) name)
    by true more = refl
    by false more = ap (λ l. first.items ∷ l) more

-- all names are such as may be exported
abbrev pub AreNamed : List (List ℕ) → Type 0
AreNamed names = AllByRecursion (λ pair. is_export_name pair.name ≡ true) (unvalued names)

named-added : (names : List (List ℕ)) (name : List ℕ) → is_export_name name ≡ true
    → AreNamed names → AreNamed (added names name)
named-added [] name is named = (is, tt)
named-added (first ∷ names) name is named =
    by (slice_cmp nat_cmp name first) (named-added names name is named.1)
  where
    by : (o : Ordering) → AreNamed (added names name)
        → AreNamed (match_ordering o (name ∷ first ∷ names) (first ∷ names)
        (first ∷ added names name))
    by Less more = (is, named)
    by Equal more = named
    by Greater more = (named.0, more)

named-removed : (names : List (List ℕ)) (name : List ℕ) → AreNamed names
    → AreNamed (removed names name)
named-removed [] name named = tt
named-removed (first ∷ names) name named =
    by (is_eq (slice_cmp nat_cmp name first)) (named-removed names name named.1)
  where
    by : (b : Bool) → AreNamed (removed names name)
        → AreNamed (cond b names (first ∷ removed names name))
    by true more = named.1
    by false more = (named.0, more)

sorted-keys : (keys : List (Vec ℕ Global)) → IsStrictlySortedBy by_items keys
    → are_sorted (unvalued (texts_of keys)) ≡ true
unfolding IsStrictlySortedBy
sorted-keys [] ordered = refl
sorted-keys (key ∷ []) ordered = refl
sorted-keys (key ∷ next ∷ keys) ordered =
    ap (λ o. is_lt o && are_sorted (unvalued (texts_of (next ∷ keys)))) ordered.0.0
    ∙ sorted-keys (next ∷ keys) ordered.1

-- the names of a set with one more
pub names-added : (keys new : List (Vec ℕ Global)) (key : Vec ℕ Global) (names : List (List ℕ))
    (name : List ℕ) → texts_of keys ≡ names → key.items ≡ name
    → new ≡ insert_key by_items keys key → texts_of new ≡ added names name
names-added keys new key names name are holds is =
    ap texts_of is ∙ texts_of-added keys key ∙ ap (λ l. added l key.items) are
    ∙ ap (added names) holds

pub added-lawful : (keys : List (Vec ℕ Global)) (names : List (List ℕ)) (name : List ℕ)
    → is_export_name name ≡ true → AreNames names → texts_of keys ≡ added names name
    → IsStrictlySortedBy by_items keys → AreNames (texts_of keys)
added-lawful keys names name may are is ordered = record {
  names = rw is (named-added names name may are.names);
  sorted = sorted-keys keys ordered;
}

-- and without one
pub names-removed : (keys new : List (Vec ℕ Global)) (names : List (List ℕ)) (name : List ℕ)
    → texts_of keys ≡ names
    → new ≡ remove_key (λ key. is_eq (slice_cmp nat_cmp name key.items)) keys
    → texts_of new ≡ removed names name
names-removed keys new names name are is =
    ap texts_of is ∙ texts_of-removed keys name ∙ ap (λ l. removed l name) are

pub removed-lawful : (keys : List (Vec ℕ Global)) (names : List (List ℕ)) (name : List ℕ)
    → AreNames names → texts_of keys ≡ removed names name
    → IsStrictlySortedBy by_items keys → AreNames (texts_of keys)
removed-lawful keys names name are is ordered = record {
  names = rw is (named-removed names name are.names);
  sorted = sorted-keys keys ordered;
}
