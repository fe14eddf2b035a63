-- The entry at a place of a map, against the pair that it stands for.
use Rattle.std.proofs.Common.{◌≡◌, ℕ, zero, suc, ◌+◌, Bool, true, false, not, cond, List, [], ◌∷◌, ◌++◌}
use Rattle.std.proofs.Common.{Some, None, length, arith}
use Rattle.std.proofs.lemmas.List.{length-map}
use Rattle.std.proofs.Common.{Option, Result, Ok, Err, OnOk, OnErr, slice_get, refl, sym, ap, ◌∙◌}
use Rattle.std.proofs.Common.{Vec, Global}
use Rattle.indexmap.specs.IndexMap.{set_value_at, swap_remove_entry}
use Rattle.indexmap.proofs.MapLemmas.{Found-position, Missing-position}
use Rattle.indexmap.proofs.SetLemmas.{map-swap_remove}
use Rattle.std.specs.List.{position, prefix_len, swap_remove}
use Rattle.std.specs.Option.{option_map_or}
use Rattle.std.specs.Map.{keys_of, values_of}
use Rattle.std.specs.Str.{bytes_eq}
use Rattle.mk_bytes.specs.Bytes.{space}
use Rattle.mk_bytes.specs.declared.fault.NoMemory.{NoMemory}
use Rattle.mk_bytes.specs.declared.pair.Pair.{Pair}
use Rattle.mk_scopes.specs.Entries.{pairs_of}
use Rattle.mk_scopes.specs.Tables.{value_in, assigned, appended, appended_at, without, joined}
use Rattle.mk_scopes.proofs.TableLemmas.{lookup-pairs}

abbrev pub Entries : Type 0
Entries = List (Vec ℕ Global × List ℕ)

-- whether a key is this name
abbrev pub is_named : List ℕ → Vec ℕ Global → Bool
is_named name key = bytes_eq name key.items

-- a write through the value at a place, of that value with more behind it
pub set_value_at-appended : (es : Entries) (place : ℕ) (old value : List ℕ)
    → slice_get (values_of es) place ≡ Some old
    → pairs_of (set_value_at es place (old ++ space ∷ value))
    ≡ appended_at (pairs_of es) place value
set_value_at-appended [] place old value is = refl
set_value_at-appended (e ∷ es) zero old value is =
    let same : e.1 ≡ old = cc in rw same refl
set_value_at-appended (e ∷ es) (suc place) old value is =
    ap (λ pairs. record { name = e.0.items; value = e.1 } ∷ pairs)
    (set_value_at-appended es place old value is)

-- a write of the value that is there
pub set_value_at-same : (es : Entries) (place : ℕ) (old : List ℕ)
    → slice_get (values_of es) place ≡ Some old
    → pairs_of (set_value_at es place old) ≡ pairs_of es
set_value_at-same [] place old is = refl
set_value_at-same (e ∷ es) zero old is = let same : e.1 ≡ old = cc in rw same refl
set_value_at-same (e ∷ es) (suc place) old is =
    ap (λ pairs. record { name = e.0.items; value = e.1 } ∷ pairs)
    (set_value_at-same es place old is)

-- behind the last place there is nothing to append to
pub appended_at-behind : (es : Entries) (place : ℕ) (value : List ℕ)
    → slice_get (values_of es) place ≡ None → appended_at (pairs_of es) place value ≡ pairs_of es
appended_at-behind [] place value is = refl
appended_at-behind (e ∷ es) zero value is = absurd cc
appended_at-behind (e ∷ es) (suc place) value is =
    ap (λ pairs. record { name = e.0.items; value = e.1 } ∷ pairs)
    (appended_at-behind es place value is)

-- the first entry of a name stands at this place
abbrev pub IsFirstOf : List ℕ → Entries → ℕ → Type 0
IsFirstOf name [] place = ⊥
IsFirstOf name (e ∷ es) zero = is_named name e.0 ≡ true
IsFirstOf name (e ∷ es) (suc place) = (is_named name e.0 ≡ false) × IsFirstOf name es place

first_appended : (name value : List ℕ) (below : Option (List ℕ)) (es : Entries) (place : ℕ)
    → IsFirstOf name es place
    → appended_at (pairs_of es) place value ≡ appended (pairs_of es) name value below
first_appended name value below [] place is = absurd is
first_appended name value below (e ∷ es) zero is = rw is refl
first_appended name value below (e ∷ es) (suc place) is =
    rw is.0 (ap (λ pairs. record { name = e.0.items; value = e.1 } ∷ pairs)
    (first_appended name value below es place is.1))

-- so an append at the place of a name is an append to the name
pub appended_at-place : (name value : List ℕ) (below : Option (List ℕ)) (es : Entries) (place : ℕ)
    → position (is_named name) (keys_of es) ≡ Some place
    → appended_at (pairs_of es) place value ≡ appended (pairs_of es) name value below
appended_at-place name value below es place is =
    first_appended name value below es place (Found-position (is_named name) es place is).first

-- a name without a place has no value
pub value_in-missing : (name : List ℕ) (es : Entries)
    → position (is_named name) (keys_of es) ≡ None → value_in (pairs_of es) name ≡ None
value_in-missing name es is =
    sym (lookup-pairs name es) ∙ (Missing-position (is_named name) es is).value

abbrev pair_of : Vec ℕ Global × List ℕ → Pair
pair_of entry = record { name = entry.0.items; value = entry.1 }

-- how many entries stand before a name, among the keys and among the pairs
before_name : (name : List ℕ) (es : Entries)
    → prefix_len (λ pair. not (bytes_eq name pair.name)) (pairs_of es)
    ≡ prefix_len (λ key. not (is_named name key)) (keys_of es)
before_name name [] = refl
before_name name (e ∷ es) =
    ap (λ n. cond (not (bytes_eq name e.0.items)) (1 + n) 0) (before_name name es)

-- a name stands at the same place among the keys and among the pairs
place_of_name : (name : List ℕ) (es : Entries)
    → position (λ pair. bytes_eq name pair.name) (pairs_of es)
    ≡ position (is_named name) (keys_of es)
place_of_name name es =
    let same : length (pairs_of es) ≡ length (keys_of es) =
    length-map es pair_of ∙ sym (length-map es (λ e. e.0)) in
    rw (before_name name es, same) refl

-- an entry taken away is its pair taken away
pub without-removed : (name : List ℕ) (es : Entries)
    → pairs_of (swap_remove_entry (is_named name) es) ≡ without (pairs_of es) name
without-removed name [] = refl
without-removed name (e ∷ es) = by (position (is_named name) (keys_of (e ∷ es))) refl
  where
    by : (place : Option ℕ) → position (is_named name) (keys_of (e ∷ es)) ≡ place
        → pairs_of (swap_remove_entry (is_named name) (e ∷ es)) ≡ without (pairs_of (e ∷ es)) name
    by None is =
        ap (λ place. pairs_of (option_map_or (λ i. swap_remove (e ∷ es) i e) place (e ∷ es))) is
        ∙ sym (ap (λ place. option_map_or (λ i. swap_remove (pairs_of (e ∷ es)) i (pair_of e)) place
        (pairs_of (e ∷ es))) (place_of_name name (e ∷ es) ∙ is))
    by (Some i) is =
        ap (λ place. pairs_of (option_map_or (λ n. swap_remove (e ∷ es) n e) place (e ∷ es))) is
        ∙ map-swap_remove pair_of (e ∷ es) i e (omega arith)
        ∙ sym (ap (λ place. option_map_or (λ n. swap_remove (pairs_of (e ∷ es)) n (pair_of e)) place
        (pairs_of (e ∷ es))) (place_of_name name (e ∷ es) ∙ is))

-- what a push to the value at a place leaves
pub pushed_at : (es : Entries) (place : ℕ) (old value new spaced : List ℕ) (pairs : List Pair)
    (result : Result (Unit {0}) NoMemory) → slice_get (values_of es) place ≡ Some old
    → spaced ≡ space ∷ value → pairs_of es ≡ pairs → OnOk result (new ≡ old ++ spaced)
    → OnOk result (pairs_of (set_value_at es place new) ≡ appended_at pairs place value)
pushed_at es place old value new spaced pairs (Ok done) there piece are pushed =
    rw (pushed, piece, ← are) (set_value_at-appended es place old value there)
pushed_at es place old value new spaced pairs (Err fault) there piece are pushed = tt

-- and a refused one
pub refused_at : (es : Entries) (place : ℕ) (old new : List ℕ) (pairs : List Pair)
    (result : Result (Unit {0}) NoMemory) → slice_get (values_of es) place ≡ Some old
    → pairs_of es ≡ pairs → OnErr result (new ≡ old)
    → OnErr result (pairs_of (set_value_at es place new) ≡ pairs)
refused_at es place old new pairs (Ok done) there are same = tt
refused_at es place old new pairs (Err fault) there are same =
    rw same (set_value_at-same es place old there ∙ are)

-- an append at the place that was found
pub appended_there : (name value : List ℕ) (below : Option (List ℕ)) (es : Entries) (place : ℕ)
    (pairs new : List Pair) (result : Result (Unit {0}) NoMemory)
    → position (is_named name) (keys_of es) ≡ Some place → pairs_of es ≡ pairs
    → OnOk result (new ≡ appended_at pairs place value)
    → OnOk result (new ≡ appended pairs name value below)
appended_there name value below es place pairs new (Ok done) found are is =
    is ∙ rw (← are) (appended_at-place name value below es place found)
appended_there name value below es place pairs new (Err fault) found are is = tt

-- an append where no place was found
pub appended_first : (name value : List ℕ) (below : Option (List ℕ)) (es : Entries)
    (pairs new : List Pair) (result : Result (Unit {0}) NoMemory)
    → position (is_named name) (keys_of es) ≡ None → pairs_of es ≡ pairs
    → OnOk result (new ≡ assigned pairs name (joined below value))
    → OnOk result (new ≡ appended pairs name value below)
appended_first name value below es pairs new (Ok done) missing are is =
    let none : value_in pairs name ≡ None = rw (← are) (value_in-missing name es missing) in
    is ∙ rw none refl
appended_first name value below es pairs new (Err fault) missing are is = tt
