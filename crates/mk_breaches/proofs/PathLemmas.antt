-- Paths, each once, against the lists of which they are.
use Rattle.std.proofs.Common.{◌≡◌, ℕ, Bool, true, false, ◌||◌, cond, List, [], ◌∷◌, ◌++◌, map, refl, sym, ap, ◌∙◌}
use Rattle.std.proofs.Common.{append_assoc, if◌then◌else◌}
use Rattle.std.proofs.lemmas.List.{append-nil}
use Rattle.std.specs.Borrow.{Bor}
use Rattle.std.specs.List.{list_any}
use Rattle.std.specs.Str.{bytes_eq}
use Rattle.indexmap.specs.IndexSet.{insert_key}
use Rattle.mk_bytes.specs.Texts.{is_among}
use Rattle.mk_filemon.specs.Outer.{once}
use Rattle.mk_filemon.proofs.PathLemmas.{among, among-once, once-push}
use Rattle.mk_breaches.specs.Held.{all_noted, noted, texts_of}

abbrev Keys : Type 0
Keys = List (Bor (List ℕ))

abbrev are_same : Bor (List ℕ) → Bor (List ℕ) → Bool
are_same one other = bytes_eq one.now other.now

is_among-keys : (keys : Keys) (key : Bor (List ℕ))
    → list_any (are_same key) keys ≡ is_among (texts_of keys) key.now
is_among-keys [] key = refl
is_among-keys (first ∷ keys) key =
    ap (λ b. bytes_eq key.now first.now || b) (is_among-keys keys key)

texts_of-push : (keys : Keys) (key : Bor (List ℕ)) → texts_of (keys ++ key ∷ []) ≡ texts_of keys ++ key.now ∷ []
texts_of-push [] key = refl
texts_of-push (first ∷ keys) key = ap (λ l. first.now ∷ l) (texts_of-push keys key)

noted-keys : (keys : Keys) (key : Bor (List ℕ))
    → texts_of (insert_key are_same keys key) ≡ noted (texts_of keys) key.now
noted-keys keys key =
    by (list_any (are_same key) keys)
    ∙ ap (λ b. cond b (texts_of keys) (texts_of keys ++ key.now ∷ [])) (is_among-keys keys key)
  where
    by : (b : Bool) → texts_of (cond b keys (keys ++ key ∷ []))
        ≡ cond b (texts_of keys) (texts_of keys ++ key.now ∷ [])
    by true = refl
    by false = texts_of-push keys key

-- a set with one more path behind the others
pub noted-in : (keys new : Keys) (key : Bor (List ℕ)) (paths : List (List ℕ)) → texts_of keys ≡ paths
    → new ≡ insert_key are_same keys key → texts_of new ≡ noted paths key.now
noted-in keys new key paths are is =
    ap texts_of is ∙ noted-keys keys key ∙ ap (λ l. noted l key.now) are

-- paths that are noted one after the other
pub all_noted_append : (paths some more : List (List ℕ))
    → all_noted paths (some ++ more) ≡ all_noted (all_noted paths some) more
all_noted_append paths [] more = refl
all_noted_append paths (path ∷ some) more = all_noted_append (noted paths path) some more

is_among-among : (paths : List (List ℕ)) (path : List ℕ) → is_among paths path ≡ among paths path
is_among-among [] path = refl
is_among-among (first ∷ paths) path = by (bytes_eq path first) (is_among-among paths path)
  where
    by : (b : Bool) → is_among paths path ≡ among paths path
        → (b || is_among paths path) ≡ (if b then true else among paths path)
    by true rest = refl
    by false rest = rest

-- one more path behind a list
pub noted-once : (paths : List (List ℕ)) (path : List ℕ) → noted (once paths) path ≡ once (paths ++ path ∷ [])
noted-once paths path =
    ap (λ b. cond b (once paths) (once paths ++ path ∷ []))
    (is_among-among (once paths) path ∙ among-once paths path)
    ∙ sym (once-push paths path)

all_noted-behind : (front paths : List (List ℕ)) → all_noted (once front) paths ≡ once (front ++ paths)
all_noted-behind front [] = ap once (sym (append-nil front))
all_noted-behind front (path ∷ paths) =
    ap (λ l. all_noted l paths) (noted-once front path) ∙ all_noted-behind (front ++ path ∷ []) paths
    ∙ ap once (append_assoc front (path ∷ []) paths)

pub all_noted-once : (paths : List (List ℕ)) → all_noted [] paths ≡ once paths
all_noted-once paths = all_noted-behind [] paths
