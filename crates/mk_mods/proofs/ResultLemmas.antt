-- One more item behind the printed text.
use Rattle.std.proofs.Common.{◌≡◌, ℕ, ◌+◌, ◌-◌, ◌≤◌, false, nat_le, List, [], ◌∷◌, ◌++◌, length, Option, Some, None}
use Rattle.std.proofs.Common.{SomeIff, append_assoc, length-append, arith}
use Rattle.std.proofs.lemmas.List.{append-nil}
use Rattle.std.proofs.lemmas.Bool.Decides.{nat_tests}
use Rattle.mk_mods.specs.State.{between, behind, joined}
use Rattle.mk_mods.specs.declared.val.Separator.{Separator}

behind-item : (sep : Separator) (first : List ℕ) (before : List (List ℕ)) (left item : List ℕ)
    → behind sep first ((before ++ left ∷ []) ++ item ∷ [])
    ≡ behind sep first (before ++ left ∷ []) ++ (between sep left item ++ item)
behind-item sep first [] left item = simp (append_assoc, append-nil)
behind-item sep first (one ∷ before) left item =
    rw (behind-item sep one before left item) (simp append_assoc)

joined-item : (sep : Separator) (before : List (List ℕ)) (left item : List ℕ)
    → joined sep ((before ++ left ∷ []) ++ item ∷ [])
    ≡ joined sep (before ++ left ∷ []) ++ (between sep left item ++ item)
joined-item sep [] left item = simp (append_assoc, append-nil)
joined-item sep (one ∷ before) left item =
    rw (behind-item sep one before left item) (simp append_assoc)

room_left : (most room size : ℕ) (found : Option ℕ) (more whole : ℕ)
    → room + size ≡ most → whole ≡ size + more
    → SomeIff found (more ≤ room) (room - more) → SomeIff found (whole ≤ most) (most - whole)
room_left most room size None more whole full is left = λ within. left (omega arith)
room_left most room size (Some n) more whole full is left = (omega arith, omega arith)

-- the room that one more item leaves behind the last one
pub room_behind-item : (most room : ℕ) (sep : Separator) (items before : List (List ℕ))
    (left item : List ℕ) (found : Option ℕ)
    → items ≡ before ++ left ∷ [] → room + length (joined sep items) ≡ most
    → SomeIff found (length (between sep left item ++ item) ≤ room)
    (room - length (between sep left item ++ item))
    → SomeIff found (length (joined sep (items ++ item ∷ [])) ≤ most)
    (most - length (joined sep (items ++ item ∷ [])))
room_behind-item most room sep items before left item found are full left_room =
    let ends = before ++ left ∷ [] in
    let whole : length (joined sep (items ++ item ∷ []))
    ≡ length (joined sep items) + length (between sep left item ++ item) =
    rw (are, joined-item sep before left item) (length-append _ _) in
    room_left most room (length (joined sep items)) found _ _ full whole left_room

-- the items that are left fit into the room that the first of them leaves
pub fits-less : (sep : Separator) (left item : List ℕ) (items : List (List ℕ)) (room less : ℕ)
    → length (between sep left item ++ item) ≤ room
    → less ≡ room - length (between sep left item ++ item)
    → nat_le (length (behind sep item items)) less ≡ nat_le (length (behind sep left (item ∷ items))) room
fits-less sep left item items room less fits is =
    let whole : length (behind sep left (item ∷ items))
    ≡ length (between sep left item ++ item) + length (behind sep item items) =
    length-append (between sep left item ++ item) (behind sep item items) in
    grind (arith, nat_tests, fits, is, whole)

-- they do not fit where the first does not
pub none_fits : (sep : Separator) (left item : List ℕ) (items : List (List ℕ)) (room : ℕ)
    → (length (between sep left item ++ item) ≤ room → ⊥)
    → nat_le (length (behind sep left (item ∷ items))) room ≡ false
none_fits sep left item items room long =
    let whole : length (behind sep left (item ∷ items))
    ≡ length (between sep left item ++ item) + length (behind sep item items) =
    length-append (between sep left item ++ item) (behind sep item items) in
    grind (arith, nat_tests, long, whole)
