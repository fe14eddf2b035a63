-- The parts of a list, one after the other.
use Rattle.std.proofs.Common.{◌≡◌, ℕ, ◌+◌, ◌<◌, Bool, true, false, cond, List, [], ◌∷◌, Some, None, length, take, drop, nat_lt, position, map, refl, ap, arith}
use Rattle.std.specs.List.{position_or_len, onto_first, slice_split}
use Rattle.std.proofs.lemmas.List.{length-map}
use Rattle.std.proofs.lemmas.List.Splits.{slice_split_first}
use Rattle.std.proofs.lemmas.Bool.Decides.{nat_tests}
use Rattle.mk_bytes.proofs.PieceLemmas.{cond_cases}

cut_at : {X : Type 0} (p : X → Bool) (d : X) (xs : List X) (at : ℕ) (found : Bool)
    → nat_lt (position_or_len p xs) (length xs) ≡ found
    → cond found (Some (position_or_len p xs)) None ≡ Some at
    → slice_split p xs ≡ take at xs ∷ slice_split p (drop (at + 1) xs)
cut_at p d xs at true lt is =
    let e : position_or_len p xs ≡ at = cc in
    let within : position_or_len p xs < length xs = grind (arith, nat_tests) in
    rw (← e) (slice_split_first p xs d within)
cut_at p d xs at false lt is = cc

-- where the list is cut first, and what is before and after it
pub slice_split-cut : {X : Type 0} (p : X → Bool) (d : X) (xs : List X) (at : ℕ)
    → position p xs ≡ Some at → slice_split p xs ≡ take at xs ∷ slice_split p (drop (at + 1) xs)
slice_split-cut p d xs at is = cut_at p d xs at (nat_lt (position_or_len p xs) (length xs)) refl is

-- the test that nothing is found, at a first element that is none
past_more : {X : Type 0} (p : X → Bool) (x : X) (xs : List X) → p x ≡ false
    → nat_lt (position_or_len p (x ∷ xs)) (length (x ∷ xs)) ≡ false
    → nat_lt (position_or_len p xs) (length xs) ≡ false
past_more p x xs is past = let here = rw is at past in grind (arith, nat_tests)

past_none : {X : Type 0} (p : X → Bool) (x : X) (xs : List X) → p x ≡ true
    → nat_lt (position_or_len p (x ∷ xs)) (length (x ∷ xs)) ≡ false → ⊥
past_none p x xs is past = let here = rw is at past in grind (arith, nat_tests)

no_cut : {X : Type 0} (p : X → Bool) (xs : List X)
    → nat_lt (position_or_len p xs) (length xs) ≡ false → slice_split p xs ≡ xs ∷ []
no_cut p [] past = refl
no_cut p (x ∷ xs) past =
    cond_cases (p x)
    (λ is. absurd (past_none p x xs is past))
    (λ is. rw is (ap (λ parts. onto_first x parts) (no_cut p xs (past_more p x xs is past))))

some_found : (found : Bool) (at : ℕ) → cond found (Some at) None ≡ None → found ≡ false
some_found true at is = cc
some_found false at is = refl

-- a list that is cut nowhere is its one part
pub slice_split-whole : {X : Type 0} (p : X → Bool) (xs : List X) → position p xs ≡ None
    → slice_split p xs ≡ xs ∷ []
slice_split-whole p xs is = no_cut p xs (some_found _ _ is)

position_or_len-map : {X Y : Type 0} (p : Y → Bool) (view : X → Y) (xs : List X)
    → position_or_len p (map view xs) ≡ position_or_len (λ x. p (view x)) xs
position_or_len-map p view [] = refl
position_or_len-map p view (x ∷ xs) = let here = position_or_len-map p view xs in cc

-- the place of an element, by what is seen of each
pub position-map : {X Y : Type 0} (p : Y → Bool) (view : X → Y) (xs : List X)
    → position p (map view xs) ≡ position (λ x. p (view x)) xs
position-map p view xs =
    let places = position_or_len-map p view xs in
    let lengths = length-map xs view in
    cc
