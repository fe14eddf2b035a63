-- What is chosen, and what a modifier leaves as it is.
use Rattle.std.proofs.Common.{◌≡◌, ℕ, zero, suc, ◌-◌, ◌≤◌, Bool, true, false, cond, List, [], ◌∷◌, Option, Some, None, Ok, Err, option_map, length, codes, take, drop, map, reverse, nat_le, refl, sym, ap, ◌∙◌, inl, inr, ◌⊎◌, arith}
use mathlib.Core.List.{reverse_aux}
use Rattle.std.proofs.lemmas.List.{take-map, drop-map, length-map}
use Rattle.std.proofs.lemmas.List.Sorted.{IsPermutation-reverse}
use Rattle.mk_pool.specs.declared.region.Piece.{Piece}
use Rattle.mk_mods.specs.Limits.{or_bad_place}
use Rattle.mk_pieces.specs.Pieces.{texts_of, bytes_of, furthest, Shows}
use Rattle.std.specs.Str.{bytes_eq}
use Rattle.mk_mods.specs.Places.{from_to, ends, chosen}
use Rattle.mk_pieces.specs.declared.fault.ModFault.{ModFault}
use Rattle.mk_mods.proofs.OrderLemmas.{furthest-permutation}

map-reverse_aux : {A B : Type 0} (f : A → B) (items others : List A)
    → map f (reverse_aux items others) ≡ reverse_aux (map f items) (map f others)
map-reverse_aux f [] others = refl
map-reverse_aux f (item ∷ items) others = map-reverse_aux f items (item ∷ others)

-- pieces in the reverse order
pub Shows-reverse : (region : List ℕ) (pieces : List Piece) (texts : List (List ℕ))
    → Shows region pieces texts → Shows region (reverse pieces) (reverse texts)
Shows-reverse region pieces texts shows =
    let ends = furthest-permutation pieces (reverse pieces) (IsPermutation-reverse pieces) in
    record {
      within = omega (arith, ends, shows.within);
      shown = map-reverse_aux (bytes_of region) pieces [] ∙ ap reverse shows.shown;
    }

furthest-take : (n : ℕ) (pieces : List Piece) → furthest (take n pieces) ≤ furthest pieces
furthest-take zero pieces = omega arith
furthest-take (suc n) [] = omega arith
furthest-take (suc n) (piece ∷ pieces) =
    let rest = furthest-take n pieces in omega (arith, rest)

furthest-drop : (n : ℕ) (pieces : List Piece) → furthest (drop n pieces) ≤ furthest pieces
furthest-drop zero pieces = omega arith
furthest-drop (suc n) [] = omega arith
furthest-drop (suc n) (piece ∷ pieces) =
    let rest = furthest-drop n pieces in omega (arith, rest)

-- pieces from a place up to another
Shows-upwards : (region : List ℕ) (pieces : List Piece) (low high : ℕ)
    → furthest pieces ≤ length region
    → Shows region (drop low (take high pieces)) (drop low (take high (texts_of region pieces)))
Shows-upwards region pieces low high within =
    let first = furthest-take high pieces in
    let second = furthest-drop low (take high pieces) in
    record {
      within = omega (arith, first, second, within);
      shown = sym (ap (drop low) (take-map (bytes_of region) high pieces)
          ∙ drop-map (bytes_of region) low (take high pieces));
    }

upwards_or_back : (region : List ℕ) (pieces : List Piece) (from to : ℕ) (up : Bool)
    → furthest pieces ≤ length region
    → Shows region
    (cond up (drop (from - 1) (take to pieces)) (reverse (drop (to - 1) (take from pieces))))
    (cond up (drop (from - 1) (take to (texts_of region pieces)))
    (reverse (drop (to - 1) (take from (texts_of region pieces)))))
upwards_or_back region pieces from to true within = Shows-upwards region pieces (from - 1) to within
upwards_or_back region pieces from to false within =
    Shows-reverse region _ _ (Shows-upwards region pieces (to - 1) from within)

-- the pieces at places show the words there
pub Shows-from_to : (region : List ℕ) (pieces : List Piece) (ends : ℕ × ℕ)
    → furthest pieces ≤ length region
    → Shows region (from_to pieces ends) (from_to (texts_of region pieces) ends)
Shows-from_to region pieces ends within =
    upwards_or_back region pieces ends.0 ends.1 (nat_le ends.0 ends.1) within

-- what is made of words that are found
pub found-map : {A B : Type 0} (f : A → B) (found : Option A) (given : A)
    → or_bad_place found ≡ Ok given → or_bad_place (option_map f found) ≡ Ok (f given)
found-map f None given is = cc
found-map f (Some words) given is = cc

-- a fault is the same whatever is made of the words
pub AgreesBut-map : {A B : Type 0} (Free : ModFault → Type 0) (fault : ModFault) (f : A → B)
    (found : Option A) → Free fault ⊎ (or_bad_place found ≡ Err fault)
    → Free fault ⊎ (or_bad_place (option_map f found) ≡ Err fault)
AgreesBut-map Free fault f found (inl free) = inl free
AgreesBut-map Free fault f None (inr is) = inr cc
AgreesBut-map Free fault f (Some words) (inr is) = cc

-- the words at places that a text names
pub chosen-places : (region text : List ℕ) (pieces : List Piece) (places : ℕ × ℕ)
    → bytes_eq text (codes "#") ≡ false → ends (length pieces) text ≡ Some places
    → chosen text (texts_of region pieces) ≡ Some (from_to (texts_of region pieces) places)
chosen-places region text pieces places other are =
    rw (other, length-map pieces (bytes_of region), are) refl
