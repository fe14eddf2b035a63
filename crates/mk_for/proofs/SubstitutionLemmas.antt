-- A line's references, one `$` after the other.
use Rattle.std.proofs.Common.{◌≡◌, ◌∙◌, ℕ, zero, suc, ◌+◌, ◌<◌, ◌≤◌, ◌++◌, List, [], ◌∷◌}
use Rattle.std.proofs.Common.{Bool, true, false, cond, Some, None, position, length, take, drop}
use Rattle.std.proofs.Common.{get_or, length-drop, refl, ap, arith}
use Rattle.std.specs.List.{position_or_len}
use Rattle.std.proofs.Math.Seq.{take-length}
use Rattle.std.proofs.lemmas.List.{append-nil, drop_all, drop-drop, get_or-drop}
use Rattle.std.proofs.lemmas.List.Quantifiers.{position-Some}
use Rattle.std.proofs.lemmas.List.Sums.{fails_before_first}
use Rattle.std.proofs.lemmas.Bool.Decides.{nat_tests}
use Rattle.mk_for.specs.Substitution.{is_dollar, piece, replaced_behind, replaced}

-- bytes that have been read are passed over
replaced_behind-drop : (names words : List (List ℕ)) (passed : ℕ) (text : List ℕ)
    → replaced_behind names words passed text ≡ replaced names words (drop passed text)
unfolding replaced_behind
replaced_behind-drop names words zero text = refl
replaced_behind-drop names words (suc passed) [] = refl
replaced_behind-drop names words (suc passed) (byte ∷ text) =
    replaced_behind-drop names words passed text

replaced-none : (names words : List (List ℕ)) → replaced names words [] ≡ []
unfolding replaced_behind
replaced-none names words = refl

replaced-byte : (names words : List (List ℕ)) (byte : ℕ) (text : List ℕ)
    → is_dollar byte ≡ false → replaced names words (byte ∷ text) ≡ byte ∷ replaced names words text
unfolding replaced_behind
replaced-byte names words byte text is_other = rw is_other refl

-- bytes in front of a `$` stay
replaced-run : (names words : List (List ℕ)) (place : ℕ) (text : List ℕ) → place ≤ length text
    → ((k : ℕ) → k < place → is_dollar (get_or text k 0) ≡ false)
    → replaced names words text ≡ take place text ++ replaced names words (drop place text)
replaced-run names words zero text within others = refl
replaced-run names words (suc place) [] within others = absurd (omega arith)
replaced-run names words (suc place) (byte ∷ text) within others =
    replaced-byte names words byte text (others 0 (omega arith))
    ∙ ap (λ more. byte ∷ more)
    (replaced-run names words place text (omega arith)
    (λ k under. others (suc k) (omega arith)))

-- a `$` and what is read with it become a piece
replaced-piece : (names words : List (List ℕ)) (text : List ℕ) → 0 < length text
    → is_dollar (get_or text 0 0) ≡ true
    → let p = piece names words (drop 1 text) in
    replaced names words text ≡ p.1 ++ replaced names words (drop p.0 (drop 1 text))
unfolding replaced_behind
replaced-piece names words [] some is = absurd (omega arith)
replaced-piece names words (byte ∷ text) some is =
    rw is
    (ap (λ more. (piece names words text).1 ++ more)
    (replaced_behind-drop names words (piece names words text).0 text))

get_or-drop-zero : (text : List ℕ) (place : ℕ) → get_or (drop place text) 0 0 ≡ get_or text place 0
get_or-drop-zero text place =
    let same : place + 0 ≡ place = omega arith in
    get_or-drop place text 0 0 ∙ ap (λ n. get_or text n 0) same

-- what a text becomes whose first `$` stands at this place
pub replaced-at : (names words : List (List ℕ)) (text : List ℕ) (place : ℕ)
    → position is_dollar text ≡ Some place
    → let behind = drop (place + 1) text in
    let p = piece names words behind in
    replaced names words text
    ≡ take place text ++ (p.1 ++ replaced names words (drop p.0 behind))
replaced-at names words text place is =
    let found = position-Some is_dollar text place 0 is in
    let some : 0 < length (drop place text) = rw length-drop (omega (arith, found.0)) in
    let starts : is_dollar (get_or (drop place text) 0 0) ≡ true
    = rw (get_or-drop-zero text place) found.1 in
    replaced-run names words place text (omega (arith, found.0)) found.2
    ∙ ap (λ more. take place text ++ more)
    (rw (drop-drop 1 place text) at (replaced-piece names words (drop place text) some starts))

some_found : (found : Bool) (at : ℕ) → cond found (Some at) None ≡ None → found ≡ false
some_found true at is = cc
some_found false at is = refl

-- a text without a `$` stays
pub replaced-without : (names words : List (List ℕ)) (text : List ℕ)
    → position is_dollar text ≡ None → replaced names words text ≡ text
replaced-without names words text is =
    let none = some_found _ _ is in
    let past : length text ≤ position_or_len is_dollar text = grind (arith, nat_tests) in
    replaced-run names words (length text) text (omega arith)
    (λ k under. fails_before_first is_dollar text k 0 (omega arith))
    ∙ rw (take-length text, drop_all (length text) text (omega arith), replaced-none names words)
    (append-nil text)
