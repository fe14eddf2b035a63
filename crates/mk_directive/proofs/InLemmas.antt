-- The place of the word `in`, one byte after the other.
use Rattle.std.proofs.Common.{◌≡◌, ℕ, suc, ◌+◌, ◌<◌, ◌≤◌, Bool, true, false, List, [], ◌∷◌, Option, Some}
use Rattle.std.proofs.Common.{None, length, drop, get_or, refl, ap, arith}
use Rattle.std.proofs.lemmas.Grind.{common_steps}
use Rattle.std.specs.Option.{option_map}
use Rattle.mk_bytes.specs.Words.{is_white}
use Rattle.mk_directive.specs.Arguments.{in_at, is_in}

-- a place, counted from so many bytes before
abbrev pub behind : ℕ → Option ℕ → Option ℕ
behind at found = option_map (λ k. k + at) found

behind-suc : (at : ℕ) (found : Option ℕ) → behind at (option_map suc found) ≡ behind (at + 1) found
behind-suc at None = refl
behind-suc at (Some k) = ap Some (omega arith)

behind_step : (begins : Bool) (at : ℕ) (text : List ℕ) (byte : ℕ) (rest : List ℕ)
    → drop at text ≡ byte ∷ rest → is_in begins (drop at text) ≡ false
    → behind at (in_at begins (drop at text)) ≡ behind (at + 1) (in_at (is_white byte) rest)
unfolding in_at
behind_step begins at text byte rest is none =
    let here = rw is at none in
    rw (is, here) (behind-suc at (in_at (is_white byte) rest))

-- no such word stands here
pub in_at-next : (begins : Bool) (at : ℕ) (text : List ℕ) → at < length text
    → is_in begins (drop at text) ≡ false
    → behind at (in_at begins (drop at text))
    ≡ behind (at + 1) (in_at (is_white (get_or text at 0)) (drop (at + 1) text))
in_at-next begins at text within none =
    behind_step begins at text (get_or text at 0) (drop (at + 1) text)
    (grind (arith, common_steps)) none

here : (begins : Bool) (at : ℕ) (text : List ℕ) (byte : ℕ) (rest : List ℕ)
    → drop at text ≡ byte ∷ rest → is_in begins (drop at text) ≡ true
    → behind at (in_at begins (drop at text)) ≡ Some at
unfolding in_at
here begins at text byte rest is found =
    let word = rw is at found in
    rw (is, word) (ap Some (omega arith))

-- the word stands here
pub in_at-here : (begins : Bool) (at : ℕ) (text : List ℕ) → at < length text
    → is_in begins (drop at text) ≡ true
    → behind at (in_at begins (drop at text)) ≡ Some at
in_at-here begins at text within found =
    here begins at text (get_or text at 0) (drop (at + 1) text) (grind (arith, common_steps)) found

over : (begins : Bool) (at : ℕ) (text : List ℕ) → drop at text ≡ []
    → behind at (in_at begins (drop at text)) ≡ None
unfolding in_at
over begins at text is = rw is refl

-- no word was found
pub in_at-over : (begins : Bool) (at : ℕ) (text : List ℕ) → length text ≤ at
    → behind at (in_at begins (drop at text)) ≡ None
in_at-over begins at text past = over begins at text (grind (arith, common_steps))
