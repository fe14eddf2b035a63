-- Words of a call, cut off at their ends, and what stands behind a word.
use Rattle.std.proofs.Common.{◌≡◌, ℕ, ◌<◌, ◌+◌, ◌-◌, ◌≤◌, nat_eq, Bool, true, false, List, suc, [], ◌∷◌, ◌++◌}
use Rattle.std.proofs.Common.{length, take, drop, get_or, Some, None}
use Rattle.std.proofs.Common.{refl, sym, ap, arith, append_assoc}
use Rattle.std.proofs.Math.Seq.{drop-cons}
use Rattle.std.proofs.lemmas.List.{append-nil, take_more, drop_all}
use Rattle.std.proofs.lemmas.Grind.{common_steps}
use Rattle.std.specs.List.{starts_with}
use Rattle.std.specs.Option.{option_map}
use Rattle.mk_strace.specs.Scan.{Cut, end_at, or_later, cut, after, behind}
use Rattle.mk_strace.specs.declared.scan.Mode.{Mode}

-- a word behind bytes that are its first ones
abbrev pub with_start : List ℕ → Cut → Cut
with_start bytes found = option_map (λ one. (bytes ++ one.0, one.1, one.2)) found

with_start-byte : (bytes : List ℕ) (byte : ℕ) (found : Cut)
    → with_start (bytes ++ byte ∷ []) found ≡ with_start bytes (or_later byte None found)
with_start-byte bytes byte None = refl
with_start-byte bytes byte (Some one) =
    ap (λ word. Some (word, one.1, one.2)) (append_assoc bytes (byte ∷ []) one.0)

pub cut-found : (commas : Bool) (within : Mode) (text : List ℕ) (place : ℕ) (is_last : Bool)
    (rest : List ℕ) → place < length text
    → Some (is_last, rest) ≡ end_at commas within (drop place text)
    → Some (take place text, is_last, rest)
    ≡ with_start (take place text) (cut commas within (drop place text))
unfolding cut
cut-found commas within text place is_last rest inside is =
    let first = drop-cons text place 0 inside in
    let here : end_at commas within (get_or text place 0 ∷ drop (suc place) text)
    ≡ Some (is_last, rest) = rw first at (sym is) in
    rw (first, here) (ap (λ word. Some (word, is_last, rest)) (sym (append-nil (take place text))))

pub cut-later : (commas : Bool) (within : Mode) (text : List ℕ) (place : ℕ) → place < length text
    → None ≡ end_at commas within (drop place text)
    → with_start (take (place + 1) text)
    (cut commas (after within (get_or text place 0)) (drop (place + 1) text))
    ≡ with_start (take place text) (cut commas within (drop place text))
unfolding cut
cut-later commas within text place inside none =
    let first = drop-cons text place 0 inside in
    let here : end_at commas within (get_or text place 0 ∷ drop (suc place) text) ≡ None =
    rw first at (sym none) in
    let one : place + 1 ≡ suc place = omega arith in
    rw (take_more text place 0 inside, one, first, here)
    (with_start-byte (take place text) (get_or text place 0)
    (cut commas (after within (get_or text place 0)) (drop (suc place) text)))

pub cut-none : (commas : Bool) (within : Mode) (text : List ℕ) (place : ℕ) → length text ≤ place
    → with_start (take place text) (cut commas within (drop place text)) ≡ None
unfolding cut
cut-none commas within text place past = rw (drop_all place text past) refl

-- a text without its first byte, as a pattern takes it
pub rest_is : (n : ℕ) (text : List ℕ) → take (length text - n) (drop n text) ≡ drop n text
rest_is n text = grind (arith, common_steps)

pub behind-found : (word text : List ℕ) → 1 ≤ length text → starts_with nat_eq text word ≡ true
    → Some (drop (length word) text) ≡ behind word text
unfolding behind
behind-found word [] some is = absurd (omega arith)
behind-found word (byte ∷ text) some is = rw is refl

pub behind-later : (word text : List ℕ) → 1 ≤ length text → starts_with nat_eq text word ≡ false
    → behind word (take (length text - 1) (drop 1 text)) ≡ behind word text
unfolding behind
behind-later word [] some apart = absurd (omega arith)
behind-later word (byte ∷ text) some apart =
    rw apart (ap (behind word) (rest_is 1 (byte ∷ text)))

pub behind-none : (word text : List ℕ) → length text < 1 → None ≡ behind word text
unfolding behind
behind-none word [] none = refl
behind-none word (byte ∷ text) none = absurd (omega arith)
