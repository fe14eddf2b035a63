-- The keys of sets, and the texts that they stand for.
use Rattle.std.proofs.Common.{◌≡◌, ℕ, Bool, true, false, ◌||◌, cond, List, [], ◌∷◌, ◌++◌, refl, sym}
use Rattle.std.proofs.Common.{ap, ◌∙◌, ◌<◌, ◌+◌, suc, length, get_or, drop, flat_map, add-one}
use Rattle.std.proofs.Common.{drop-cons, Vec, Global, Ordering, Less, Equal, Greater}
use Rattle.indexmap.specs.IndexSet as once
use Rattle.std.specs.BTreeSet as ordered
use Rattle.std.specs.Cmp.Lexicographic.{slice_cmp}
use Rattle.std.specs.List.{list_any}
use Rattle.std.specs.Ordering.{match_ordering, nat_cmp}
use Rattle.std.specs.Str.{bytes_eq}
use Rattle.mk_bytes.specs.Texts.{is_among}
use Rattle.mk_listing.specs.Lists.{all_noted, noted, put_in, texts_of}

-- texts that are noted one after the other
pub all_noted_append : (texts some more : List (List ℕ))
    → all_noted texts (some ++ more) ≡ all_noted (all_noted texts some) more
all_noted_append texts [] more = refl
all_noted_append texts (text ∷ some) more = all_noted_append (noted texts text) some more

-- what one more item of a list has, and what those behind it have
pub noted-next : {X : Type 0} (f : X → List (List ℕ)) (texts new : List (List ℕ)) (xs : List X)
    (x : X) (i : ℕ) → i < length xs → x ≡ get_or xs i x → new ≡ all_noted texts (f x)
    → all_noted new (flat_map f (drop (i + 1) xs)) ≡ all_noted texts (flat_map f (drop i xs))
noted-next f texts new xs x i within at is =
    rw (add-one, is, drop-cons xs i x within, ← at)
    (sym (all_noted_append texts (f x) (flat_map f (drop (suc i) xs))))

abbrev by_items : Vec ℕ Global → Vec ℕ Global → Ordering
by_items one other = slice_cmp nat_cmp one.items other.items

abbrev are_same : Vec ℕ Global → Vec ℕ Global → Bool
are_same one other = bytes_eq one.items other.items

put_in-keys : (keys : List (Vec ℕ Global)) (key : Vec ℕ Global)
    → texts_of (ordered.insert_key by_items keys key) ≡ put_in (texts_of keys) key.items
put_in-keys [] key = refl
put_in-keys (first ∷ keys) key = by (by_items key first) (put_in-keys keys key)
  where
    by : (o : Ordering)
        → texts_of (ordered.insert_key by_items keys key) ≡ put_in (texts_of keys) key.items
        → texts_of (match_ordering o (key ∷ first ∷ keys) (first ∷ keys)
        (first ∷ ordered.insert_key by_items keys key))
        ≡ match_ordering o (key.items ∷ first.items ∷ texts_of keys) (first.items ∷ texts_of keys)
        (first.items ∷ put_in (texts_of keys) key.items)
    by Less more = refl
    by Equal more = refl
    by Greater more = ap (λ l. first.items ∷ l) more

-- a set with one more text
pub put-in : (keys new : List (Vec ℕ Global)) (key : Vec ℕ Global) (texts : List (List ℕ))
    (text : List ℕ) → texts_of keys ≡ texts → key.items ≡ text
    → new ≡ ordered.insert_key by_items keys key → texts_of new ≡ put_in texts text
put-in keys new key texts text are holds is =
    ap texts_of is ∙ put_in-keys keys key ∙ ap (λ l. put_in l key.items) are
    ∙ ap (put_in texts) holds

is_among-keys : (keys : List (Vec ℕ Global)) (key : Vec ℕ Global)
    → list_any (are_same key) keys ≡ is_among (texts_of keys) key.items
is_among-keys [] key = refl
is_among-keys (first ∷ keys) key =
    ap (λ b. bytes_eq key.items first.items || b) (is_among-keys keys key)

texts_of-push : (keys : List (Vec ℕ Global)) (key : Vec ℕ Global)
    → texts_of (keys ++ key ∷ []) ≡ texts_of keys ++ key.items ∷ []
texts_of-push [] key = refl
texts_of-push (first ∷ keys) key = ap (λ l. first.items ∷ l) (texts_of-push keys key)

noted-keys : (keys : List (Vec ℕ Global)) (key : Vec ℕ Global)
    → texts_of (once.insert_key are_same keys key) ≡ noted (texts_of keys) key.items
noted-keys keys key =
    by (list_any (are_same key) keys)
    ∙ ap (λ b. cond b (texts_of keys) (texts_of keys ++ key.items ∷ [])) (is_among-keys keys key)
  where
    by : (b : Bool) → texts_of (cond b keys (keys ++ key ∷ []))
        ≡ cond b (texts_of keys) (texts_of keys ++ key.items ∷ [])
    by true = refl
    by false = texts_of-push keys key

-- a set with one more text behind the others
pub noted-in : (keys new : List (Vec ℕ Global)) (key : Vec ℕ Global) (texts : List (List ℕ))
    (text : List ℕ) → texts_of keys ≡ texts → key.items ≡ text
    → new ≡ once.insert_key are_same keys key → texts_of new ≡ noted texts text
noted-in keys new key texts text are holds is =
    ap texts_of is ∙ noted-keys keys key ∙ ap (λ l. noted l key.items) are
    ∙ ap (noted texts) holds
