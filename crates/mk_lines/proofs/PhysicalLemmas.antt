-- The first physical line of a text, and how many there are.
use Rattle.std.proofs.Common.{◌≡◌, ℕ, suc, not, cond, ◌+◌, ◌<◌, ◌≤◌, true, false, if◌then◌else◌}
use Rattle.std.proofs.Common.{List, [], ◌∷◌, length, take, drop, Some, None, refl, ap, arith}
use Rattle.std.specs.List.{before_first, after_first, position_or_len, onto_first}
use Rattle.std.proofs.lemmas.List.Sums.{position_or_len_is}
use Rattle.std.proofs.lemmas.Bool.{false_from_ne_true}
use Rattle.memchr.specs.Find.{IsFirstByte, is_byte}
use Rattle.mk_bytes.specs.Bytes.{newline}
use Rattle.mk_lines.specs.Lines.{is_newline, physical_lines}

-- where a search for the first newline ends
pub position_or_len-found : (text : List ℕ) (end : ℕ)
    → IsFirstByte (is_byte newline) text (Some end)
    → position_or_len is_newline text ≡ end
position_or_len-found text end found =
    position_or_len_is is_newline text end 0 (omega (arith, found.0.high))
    (λ k under. false_from_ne_true _ (found.0.before k (omega arith) under))
    (λ within. found.1)

pub position_or_len-none : (text : List ℕ) → IsFirstByte (is_byte newline) text None
    → position_or_len is_newline text ≡ length text
position_or_len-none text none =
    position_or_len_is is_newline text (length text) 0 (omega arith)
    (λ k under. false_from_ne_true _ (none k (omega arith) under))
    (λ within. absurd (omega arith))

pub physical_lines-none : physical_lines [] ≡ []
unfolding physical_lines
physical_lines-none = refl

-- one byte more in front of a text whose first physical line is known
physical_lines-cons : (byte : ℕ) (text : List ℕ)
    → onto_first byte (physical_lines text)
    ≡ (byte ∷ before_first is_newline text) ∷ physical_lines (after_first is_newline text)
    → physical_lines (byte ∷ text)
    ≡ before_first is_newline (byte ∷ text)
    ∷ physical_lines (after_first is_newline (byte ∷ text))
unfolding physical_lines
physical_lines-cons byte text onto =
    let n = position_or_len is_newline text in
    let one_more : 1 + n ≡ suc n = omega arith in
    let two_more : 1 + n + 1 ≡ suc (n + 1) = omega arith in
    elim (is_newline byte) as (λ t.
    (if t then [] ∷ physical_lines text else onto_first byte (physical_lines text))
    ≡ take (cond (not t) (1 + n) 0) (byte ∷ text)
    ∷ physical_lines (drop (cond (not t) (1 + n) 0 + 1) (byte ∷ text)))
    [ true ↦ refl | false ↦ rw (two_more, one_more) onto ]

-- the first physical line ends at the first newline
pub physical_lines-first : (text : List ℕ) → 0 < length text
    → physical_lines text
    ≡ before_first is_newline text ∷ physical_lines (after_first is_newline text)
unfolding physical_lines
physical_lines-first [] some = absurd (omega arith)
physical_lines-first (byte ∷ []) some = physical_lines-cons byte [] refl
physical_lines-first (byte ∷ next ∷ rest) some =
    physical_lines-cons byte (next ∷ rest)
    (ap (onto_first byte) (physical_lines-first (next ∷ rest) (omega arith)))

pub length-onto_first : {X : Type 0} (x : X) (parts : List (List X))
    → length (onto_first x parts) ≤ length parts + 1
length-onto_first x [] = omega arith
length-onto_first x (part ∷ parts) = omega arith

-- each physical line takes a byte
pub length-physical_lines : (text : List ℕ) → length (physical_lines text) ≤ length text
unfolding physical_lines
length-physical_lines [] = omega arith
length-physical_lines (byte ∷ bytes) =
    let fewer : length (physical_lines bytes) ≤ length bytes = length-physical_lines bytes in
    let longer : length (onto_first byte (physical_lines bytes)) ≤ length (physical_lines bytes) + 1
    = length-onto_first byte (physical_lines bytes) in
    elim (is_newline byte) as (λ t.
    length (if t then [] ∷ physical_lines bytes else onto_first byte (physical_lines bytes))
    ≤ length (byte ∷ bytes))
    [ true ↦ omega arith | false ↦ omega arith ]
