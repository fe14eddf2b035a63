-- Names, and the texts that they stand for.
use Rattle.std.proofs.Common.{◌≡◌, ◌≢◌, ◌↔◌, ℕ, ◌<◌, Bool, true, false, nat_lt, List, [], ◌∷◌, ◌++◌, length, Some, None, slice_get, get_or, refl, sym, ap, ◌∙◌, true≢false, lt-ltb, arith}
use Rattle.std.specs.List.{position_or_len}
use Rattle.std.specs.Str.{bytes_eq}
use Rattle.std.proofs.lemmas.Bool.{cond_both, false_from_ne_true}
use Rattle.std.proofs.lemmas.Bool.Decides.{nat_tests}
use Rattle.std.proofs.lemmas.List.{length-append}
use Rattle.std.proofs.lemmas.List.Folds.{list_any_at}
use Rattle.std.proofs.lemmas.List.Quantifiers.{all_pairs_push}
use Rattle.std.proofs.lemmas.List.Sums.{position_or_len_is, passes_at_first}
use Rattle.std.proofs.lemmas.Option.{slice_get-get_or, slice_get_within, get_or_from_slice_get}
use Rattle.std.proofs.lemmas.Slice.Eq.{bytes_eq-Decides}
use Rattle.std.proofs.Math.ListN.{get_or-append}
use Rattle.std.proofs.Math.Seq.{get_or-append_seam}
use Rattle.mk_pool.specs.Pool.{AreDistinct, name_of, is_held, with_text}
use Rattle.mk_pool.specs.declared.pool.Name.{Name}

-- bytes that differ do not pass the test
differ : (one other : List ℕ) → one ≢ other → bytes_eq one other ≡ false
differ one other apart = false_from_ne_true _ (λ is. apart ((bytes_eq-Decides one other).0 is))

-- and equal bytes do
agree : (one other : List ℕ) → one ≡ other → bytes_eq one other ≡ true
agree one other is = (bytes_eq-Decides one other).1 is

-- bytes that are not held differ from each text
pub not_held : (texts : List (List ℕ)) (bytes : List ℕ) → is_held texts bytes ≡ false
    → (k : ℕ) (d : List ℕ) → k < length texts → get_or texts k d ≢ bytes
not_held texts bytes absent k d within is =
    let passes = agree bytes (get_or texts k d) (sym is) in
    true≢false (sym (list_any_at (bytes_eq bytes) texts k d within passes) ∙ absent)

-- texts stay distinct where new bytes are added
pub AreDistinct-append : (texts : List (List ℕ)) (bytes : List ℕ) → is_held texts bytes ≡ false
    → AreDistinct texts → AreDistinct (texts ++ bytes ∷ [])
AreDistinct-append texts bytes absent distinct =
    let fresh = not_held texts bytes absent in
    all_pairs_push (λ text later. text ≢ later) texts bytes distinct fresh

-- interning keeps the texts distinct
pub AreDistinct-with_text : (texts : List (List ℕ)) (bytes : List ℕ) → AreDistinct texts
    → AreDistinct (with_text texts bytes)
AreDistinct-with_text texts bytes distinct =
    cond_both (is_held texts bytes) texts (texts ++ bytes ∷ []) AreDistinct (λ held. distinct)
    (λ absent. AreDistinct-append texts bytes absent distinct)

-- the first place of bytes is their name
name_at : (texts : List (List ℕ)) (bytes : List ℕ) (k : ℕ) → k < length texts
    → position_or_len (bytes_eq bytes) texts ≡ k → name_of texts bytes ≡ Some (record { 0 = k })
name_at texts bytes k within first = rw (first, lt-ltb k (length texts) within) refl

-- a text that is held has the name of its place
pub name_of-slice_get : (texts : List (List ℕ)) (k : ℕ) (bytes : List ℕ) → AreDistinct texts
    → slice_get texts k ≡ Some bytes → name_of texts bytes ≡ Some (record { 0 = k })
name_of-slice_get texts k bytes distinct at =
    let within = slice_get_within texts k bytes at in
    let here = sym (get_or_from_slice_get texts k bytes bytes at) in
    name_at texts bytes k within
    (position_or_len_is (bytes_eq bytes) texts k bytes (omega arith)
    (λ j before. differ bytes _ (λ is. distinct j k bytes before within (sym is ∙ here)))
    (λ _. agree bytes _ here))

-- no text before the last one is the same as new bytes
before_last : (texts : List (List ℕ)) (bytes : List ℕ) → is_held texts bytes ≡ false
    → (j : ℕ) → j < length texts → bytes_eq bytes (get_or (texts ++ bytes ∷ []) j bytes) ≡ false
before_last texts bytes absent j within =
    let old = get_or-append texts (bytes ∷ []) bytes j within in
    differ bytes _ (λ is. not_held texts bytes absent j bytes within (sym old ∙ sym is))

last_name : (texts : List (List ℕ)) (bytes : List ℕ) → is_held texts bytes ≡ false
    → name_of (texts ++ bytes ∷ []) bytes ≡ Some (record { 0 = length texts })
last_name texts bytes absent =
    let longer = length-append texts (bytes ∷ []) in
    let last = sym (get_or-append_seam texts bytes [] bytes) in
    name_at (texts ++ bytes ∷ []) bytes (length texts) (omega arith)
    (position_or_len_is (bytes_eq bytes) (texts ++ bytes ∷ []) (length texts) bytes (omega arith)
    (before_last texts bytes absent) (λ _. agree bytes _ last))

-- new bytes have the first name that was free
pub name_of-append : (texts all : List (List ℕ)) (bytes : List ℕ) (name : Name)
    → is_held texts bytes ≡ false → all ≡ texts ++ bytes ∷ [] → name.0 ≡ length texts
    → name_of all bytes ≡ Some name
name_of-append texts all bytes name absent is free =
    ap (λ held. name_of held bytes) is ∙ last_name texts bytes absent
    ∙ ap (λ k. Some (record { 0 = k })) (sym free)

first_place : (texts : List (List ℕ)) (bytes : List ℕ) (name : Name) (found : Bool)
    → nat_lt (position_or_len (bytes_eq bytes) texts) (length texts) ≡ found
    → name_of texts bytes ≡ Some name → slice_get texts name.0 ≡ Some bytes
first_place texts bytes name true found is =
    let first = position_or_len (bytes_eq bytes) texts in
    let within : first < length texts = grind (arith, nat_tests) in
    let place : name.0 ≡ first = let named = name_at texts bytes first within refl in cc in
    let here = (bytes_eq-Decides _ _).0 (passes_at_first (bytes_eq bytes) texts bytes within) in
    rw place (slice_get-get_or texts first bytes within ∙ ap (λ text. Some text) (sym here))
first_place texts bytes name false found is =
    let none : name_of texts bytes ≡ None = rw found refl in cc

-- a name is the place of its bytes
pub slice_get-name_of : (texts : List (List ℕ)) (bytes : List ℕ) (name : Name)
    → name_of texts bytes ≡ Some name → slice_get texts name.0 ≡ Some bytes
slice_get-name_of texts bytes name is = first_place texts bytes name _ refl is

-- the names that are there keep their texts
pub slice_get-with_text : (texts : List (List ℕ)) (bytes text : List ℕ) (k : ℕ)
    → slice_get texts k ≡ Some text → slice_get (with_text texts bytes) k ≡ Some text
slice_get-with_text texts bytes text k at =
    let all = texts ++ bytes ∷ [] in
    let within = slice_get_within texts k text at in
    let longer = length-append texts (bytes ∷ []) in
    let stays = get_or-append texts (bytes ∷ []) text k within in
    let is = stays ∙ get_or_from_slice_get texts k text text at in
    cond_both (is_held texts bytes) texts all (λ held. slice_get held k ≡ Some text) (λ _. at)
    (λ _. slice_get-get_or all k text (omega arith) ∙ ap (λ found. Some found) is)

-- and so the bytes that are there keep their names
pub name_of-with_text : (texts : List (List ℕ)) (bytes text : List ℕ) (name : Name)
    → AreDistinct texts → name_of texts text ≡ Some name
    → name_of (with_text texts bytes) text ≡ Some name
name_of-with_text texts bytes text name distinct is =
    let at = slice_get-with_text texts bytes text name.0 (slice_get-name_of texts text name is) in
    let still = AreDistinct-with_text texts bytes distinct in
    name_of-slice_get (with_text texts bytes) name.0 text still at

-- two names are equal exactly where their bytes are
pub names_one_to_one : (texts : List (List ℕ)) (name other : Name) (bytes text : List ℕ)
    → AreDistinct texts → slice_get texts name.0 ≡ Some bytes → slice_get texts other.0 ≡ Some text
    → (name ≡ other) ↔ (bytes ≡ text)
names_one_to_one texts name other bytes text distinct at there = (
  λ is. let one = ap (λ (n : Name). slice_get texts n.0) is in cc,
  λ is.
      let first = name_of-slice_get texts name.0 bytes distinct at in
      let second = name_of-slice_get texts other.0 text distinct there in
      let one = ap (λ held. name_of texts held) is in cc,
)
