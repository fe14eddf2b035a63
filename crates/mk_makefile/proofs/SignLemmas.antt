-- The place of an assignment's sign, one byte after the other.
use Rattle.std.proofs.Common.{◌≡◌, ℕ, suc, ◌+◌, ◌<◌, ◌≤◌, true, false, List, [], ◌∷◌, Option, Some}
use Rattle.std.proofs.Common.{None, length, drop, get_or, refl, ap, arith}
use Rattle.std.proofs.lemmas.Grind.{common_steps}
use Rattle.std.specs.Option.{option_map}
use Rattle.mk_makefile.specs.Assignments.{equals_at, is_sign, depth_behind}

-- a place, counted from so many bytes before
abbrev pub behind : ℕ → Option ℕ → Option ℕ
behind at found = option_map (λ k. k + at) found

behind-suc : (at : ℕ) (found : Option ℕ) → behind at (option_map suc found) ≡ behind (at + 1) found
behind-suc at None = refl
behind-suc at (Some k) = ap Some (omega arith)

behind_step : (depth at : ℕ) (line : List ℕ) (byte : ℕ) (rest : List ℕ)
    → drop at line ≡ byte ∷ rest → is_sign depth byte ≡ false
    → behind at (equals_at depth (drop at line))
    ≡ behind (at + 1) (equals_at (depth_behind depth byte) rest)
unfolding equals_at
behind_step depth at line byte rest is none =
    rw (is, none) (behind-suc at (equals_at (depth_behind depth byte) rest))

-- no sign stands here
pub equals_at-next : (depth at : ℕ) (line : List ℕ) → at < length line
    → is_sign depth (get_or line at 0) ≡ false
    → behind at (equals_at depth (drop at line))
    ≡ behind (at + 1) (equals_at (depth_behind depth (get_or line at 0)) (drop (at + 1) line))
equals_at-next depth at line within none =
    behind_step depth at line (get_or line at 0) (drop (at + 1) line)
    (grind (arith, common_steps)) none

here : (depth at : ℕ) (line : List ℕ) (byte : ℕ) (rest : List ℕ)
    → drop at line ≡ byte ∷ rest → is_sign depth byte ≡ true
    → behind at (equals_at depth (drop at line)) ≡ Some at
unfolding equals_at
here depth at line byte rest is sign = rw (is, sign) (ap Some (omega arith))

-- the sign stands here
pub equals_at-here : (depth at : ℕ) (line : List ℕ) → at < length line
    → is_sign depth (get_or line at 0) ≡ true
    → behind at (equals_at depth (drop at line)) ≡ Some at
equals_at-here depth at line within sign =
    here depth at line (get_or line at 0) (drop (at + 1) line) (grind (arith, common_steps)) sign

over : (depth at : ℕ) (line : List ℕ) → drop at line ≡ []
    → behind at (equals_at depth (drop at line)) ≡ None
unfolding equals_at
over depth at line is = rw is refl

-- no sign was found
pub equals_at-over : (depth at : ℕ) (line : List ℕ) → length line ≤ at
    → behind at (equals_at depth (drop at line)) ≡ None
equals_at-over depth at line past = over depth at line (grind (arith, common_steps))

pub equals_at-start : (line : List ℕ) (found : Option ℕ) → behind 0 found ≡ found
equals_at-start line None = refl
equals_at-start line (Some k) = ap Some (omega arith)
