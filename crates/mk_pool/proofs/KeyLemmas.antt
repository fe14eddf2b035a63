-- The keys of a set of texts, and the texts that they hold.
use Rattle.std.proofs.Common.{◌≡◌, ℕ, ◌+◌, ◌<◌, ◌||◌, Bool, false, not, cond, List, [], ◌∷◌, ◌++◌, length, get_or, Option, Some, position, slice_get, refl, sym, ap, ◌∙◌, Vec, Global, arith}
use Rattle.std.specs.List.{list_any, position_or_len}
use Rattle.std.specs.Option.{option_map}
use Rattle.std.specs.Str.{bytes_eq}
use Rattle.std.proofs.lemmas.List.{length-map, map-append}
use Rattle.std.proofs.lemmas.Option.{slice_get-map, slice_get_read}
use Rattle.indexmap.specs.IndexSet.{insert_key}
use Rattle.mk_pool.specs.Pool.{texts_of, name_of, is_held}

-- the first of these bytes stands at the same place among the texts and among the keys
first-texts_of : (bytes : List ℕ) (keys : List (Vec ℕ Global))
    → position_or_len (bytes_eq bytes) (texts_of keys)
    ≡ position_or_len (λ key. bytes_eq bytes key.items) keys
first-texts_of bytes [] = refl
first-texts_of bytes (key ∷ keys) =
    ap (λ n. cond (not (bytes_eq bytes key.items)) (1 + n) 0) (first-texts_of bytes keys)

is_held-texts_of : (bytes : List ℕ) (keys : List (Vec ℕ Global))
    → is_held (texts_of keys) bytes ≡ list_any (λ key. bytes_eq bytes key.items) keys
is_held-texts_of bytes [] = refl
is_held-texts_of bytes (key ∷ keys) =
    ap (λ found. bytes_eq bytes key.items || found) (is_held-texts_of bytes keys)

-- the set's index of bytes is their name
pub name_of-index : (bytes : List ℕ) (keys : List (Vec ℕ Global)) (texts : List (List ℕ))
    → (index : Option ℕ) → texts_of keys ≡ texts
    → index ≡ position (λ key. bytes_eq bytes key.items) keys
    → option_map (λ place. record { 0 = place }) index ≡ name_of texts bytes
name_of-index bytes keys texts index seen is =
    rw (is, ← seen, first-texts_of bytes keys, length-map) refl

-- the bytes that the set contains are held
pub is_held-contains : (bytes : List ℕ) (keys : List (Vec ℕ Global)) (texts : List (List ℕ))
    → (found : Bool) → texts_of keys ≡ texts
    → found ≡ list_any (λ key. bytes_eq bytes key.items) keys → found ≡ is_held texts bytes
is_held-contains bytes keys texts found seen is =
    is ∙ sym (is_held-texts_of bytes keys) ∙ ap (λ all. is_held all bytes) seen

-- a new key is the last text
pub texts_of-insert_key : (key : Vec ℕ Global) (keys new : List (Vec ℕ Global))
    → (texts : List (List ℕ)) (bytes : List ℕ)
    → texts_of keys ≡ texts → key.items ≡ bytes → is_held texts bytes ≡ false
    → new ≡ insert_key (λ one other. bytes_eq one.items other.items) keys key
    → texts_of new ≡ texts ++ bytes ∷ []
texts_of-insert_key key keys new texts bytes seen holds absent is =
    let found = is_held-contains key.items keys texts _ seen refl in
    let fresh = found ∙ ap (λ text. is_held texts text) holds ∙ absent in
    rw (is, fresh, map-append, seen, holds) refl

-- the bytes of a key are the text at its place
pub slice_get-texts_of : (keys : List (Vec ℕ Global)) (texts : List (List ℕ)) (k : ℕ)
    → (key : Vec ℕ Global) (bytes : List ℕ) → texts_of keys ≡ texts → k < length texts
    → key ≡ get_or keys k key → bytes ≡ key.items → slice_get texts k ≡ Some bytes
slice_get-texts_of keys texts k key bytes seen within at is =
    let long = sym (length-map keys (λ other. other.items)) ∙ ap length seen in
    let read = slice_get_read keys (length keys) k key refl (omega arith) at in
    let mapped = slice_get-map (λ (other : Vec ℕ Global). other.items) keys k in
    rw (← seen, mapped, read, is) refl
