-- Texts that are cut at a byte, and at quotes with a space between them.
use Rattle.std.proofs.Common.{◌≡◌, ℕ, ◌<◌, ◌+◌, ◌-◌, Bool, true, false, cond, ◌==◌, List}
use Rattle.std.proofs.Common.{suc, ◌≤◌, [], ◌∷◌, ◌++◌, length, take, drop, get_or, nat_lt, Option}
use Rattle.std.proofs.Common.{Some, None}
use Rattle.std.proofs.Common.{if◌then◌else◌, refl, sym, ◌∙◌, ap, ap₂, arith, position}
use Rattle.std.proofs.Math.Seq.{drop-cons}
use Rattle.std.proofs.lemmas.Bool.Decides.{nat_tests}
use Rattle.std.proofs.lemmas.Grind.{common_steps}
use Rattle.std.proofs.lemmas.Option.{some_pair_parts}
use Rattle.std.proofs.lemmas.List.{append-nil, take_more, drop_all}
use Rattle.std.specs.List.{position_or_len}
use Rattle.std.specs.Option.{option_map}
use Rattle.mk_filemon.specs.Escapes.{Part, with_byte}
use Rattle.mk_filemon.specs.Escapes.{cut_at}
use Rattle.mk_filemon.specs.Log.{is_gap, cut_at_gap}
use Rattle.mk_filemon.proofs.EscapeLemmas.{cases, with_byte-some, with_bytes, with_bytes-byte}

-- a text is cut where the byte stands first
cut_at-first : (byte first : ℕ) (text : List ℕ)
    → cut_at byte (first ∷ text)
    ≡ (if first == byte then Some ([], text) else with_byte first (cut_at byte text))
unfolding cut_at
cut_at-first byte first text = refl

abbrev pub placed : List ℕ → Option ℕ → Part
placed text found = option_map (λ place. (take place text, drop (place + 1) text)) found

placed-later : (first : ℕ) (text : List ℕ) (place : ℕ) (within : Bool)
    → with_byte first (placed text (cond within (Some place) None))
    ≡ placed (first ∷ text) (cond within (Some (1 + place)) None)
placed-later first text place true =
    let one : 1 + place ≡ suc place = omega arith in
    let two : suc place + 1 ≡ suc (place + 1) = omega arith in
    rw (one, two) refl
placed-later first text place false = refl

pub cut_at-position : (byte : ℕ) (text : List ℕ)
    → cut_at byte text ≡ placed text (position (λ one. one == byte) text)
unfolding cut_at
cut_at-position byte [] = refl
cut_at-position byte (first ∷ text) =
    let place = position_or_len (λ one. one == byte) text in
    let later : nat_lt (1 + place) (length (first ∷ text)) ≡ nat_lt place (length text) =
    grind (arith, nat_tests) in
    cases (first == byte)
    (λ here. let within : nat_lt 0 (suc (length text)) ≡ true = grind (arith, nat_tests) in
    rw (here, within) refl)
    (λ apart. rw (apart, cut_at-position byte text)
    (placed-later first text place (nat_lt place (length text))
    ∙ ap (λ within. placed (first ∷ text) (cond within (Some (1 + place)) None)) (sym later)))

-- bytes among which another one does not stand
abbrev pub IsWithout : ℕ → List ℕ → Type 0
IsWithout byte [] = Unit {0}
IsWithout byte (first ∷ text) = ((first == byte) ≡ false) × IsWithout byte text

pub IsWithout-push : (byte : ℕ) (text : List ℕ) (last : ℕ) → IsWithout byte text
    → (last == byte) ≡ false → IsWithout byte (text ++ last ∷ [])
IsWithout-push byte [] last apart nor = (nor, tt)
IsWithout-push byte (first ∷ text) last apart nor =
    (apart.0, IsWithout-push byte text last apart.1 nor)

pub cut_at-again : (byte : ℕ) (text rest : List ℕ) → IsWithout byte text
    → cut_at byte (text ++ byte ∷ rest) ≡ Some (text, rest)
unfolding cut_at
cut_at-again byte [] rest apart = let same : (byte == byte) ≡ true = grind
    (arith, nat_tests) in rw same refl
cut_at-again byte (first ∷ text) rest apart = rw (apart.0, cut_at-again byte text rest apart.1) refl

pub cut_at-written : (byte : ℕ) (text before behind : List ℕ)
    → cut_at byte text ≡ Some (before, behind) → text ≡ before ++ byte ∷ behind
unfolding cut_at
cut_at-written byte [] before behind is = absurd cc
cut_at-written byte (first ∷ text) before behind is =
    cases (first == byte)
    (λ here. let same : first ≡ byte = grind (arith, nat_tests) in
    let found : ◌≡◌ {A = Part} (Some ([], text)) (Some (before, behind)) = rw here at is in
    let parts = some_pair_parts [] before text behind found in
    rw same (ap₂ (λ a b. a ++ byte ∷ b) parts.0 parts.1))
    (λ apart. let more = with_byte-some first (cut_at byte text) before behind (rw apart at is) in
    rw more.2 (ap (λ bytes. first ∷ bytes) (cut_at-written byte text more.0 behind more.1)))

-- a text is cut at its first gap
pub rest_is : (n : ℕ) (text : List ℕ) → take (length text - n) (drop n text) ≡ drop n text
rest_is n text = grind (arith, common_steps)

pub gap-found : (text : List ℕ) (place : ℕ) → place < length text
    → is_gap (drop place text) ≡ true
    → with_bytes (take place text) (cut_at_gap (drop place text))
    ≡ Some (take place text, drop 3 (drop place text))
unfolding cut_at_gap
gap-found text place within is =
    let first = drop-cons text place 0 within in
    let here : is_gap (get_or text place 0 ∷ drop (suc place) text) ≡ true = rw first at is in
    rw (first, here) (ap (λ bytes. Some (bytes, drop 2 (drop (suc place) text)))
    (append-nil (take place text)))

pub gap-later : (text : List ℕ) (place : ℕ) → place < length text
    → is_gap (drop place text) ≡ false
    → with_bytes (take (place + 1) text) (cut_at_gap (drop (place + 1) text))
    ≡ with_bytes (take place text) (cut_at_gap (drop place text))
unfolding cut_at_gap
gap-later text place within apart =
    let first = drop-cons text place 0 within in
    let here : is_gap (get_or text place 0 ∷ drop (suc place) text) ≡ false = rw first at apart in
    let one : place + 1 ≡ suc place = omega arith in
    rw (take_more text place 0 within, one, first, here)
    (with_bytes-byte (take place text) (get_or text place 0) (cut_at_gap (drop (suc place) text)))

pub gap-none : (text : List ℕ) (place : ℕ) → length text ≤ place
    → with_bytes (take place text) (cut_at_gap (drop place text)) ≡ None
unfolding cut_at_gap
gap-none text place past = rw (drop_all place text past) refl
