-- The members of a set, read from the front.
use Rattle.std.proofs.Common.{◌≡◌, ◌≢◌, ◌⊎◌, inl, inr, ℕ, ◌-◌, ◌<◌, ◌≤◌, false, ◌||◌, ◌==◌, List}
use Rattle.std.proofs.Common.{[], ◌∷◌, length, get_or, take, drop, refl, arith}
use Rattle.std.proofs.lemmas.Bool.Decides.{nat_tests}
use Rattle.std.proofs.lemmas.Grind.{common_steps}
use Rattle.mk_glob.specs.Patterns.{is_between, is_member}

-- the bytes from a place up to the end, as a slice has them
pub rest_of : (place : ℕ) (bytes : List ℕ)
    → take (length bytes - place) (drop place bytes) ≡ drop place bytes
rest_of place bytes = grind (arith, common_steps)

-- two members with a `-` between them are a range
pub is_member-range : (members : List ℕ) (byte : ℕ) → 3 ≤ length members → get_or members 1 0 ≡ 45
    → is_member members byte
    ≡ (is_between (get_or members 0 0) (get_or members 2 0) byte || is_member (drop 3 members) byte)
is_member-range [] byte long is = absurd (omega arith)
is_member-range (low ∷ []) byte long is = absurd (omega arith)
is_member-range (low ∷ dash ∷ []) byte long is = absurd (omega arith)
is_member-range (low ∷ dash ∷ high ∷ more) byte long is = rw is refl

-- a range from a byte to itself is the byte
is_between-same : (member byte : ℕ) → is_between member member byte ≡ (member == byte)
is_between-same member byte = grind (arith, nat_tests)

-- any other member stands for itself
pub is_member-alone : (members : List ℕ) (byte : ℕ) → 0 < length members
    → (length members < 3) ⊎ (get_or members 1 0 ≢ 45)
    → is_member members byte
    ≡ (is_between (get_or members 0 0) (get_or members 0 0) byte || is_member (drop 1 members) byte)
is_member-alone [] byte some alone = absurd (omega arith)
is_member-alone (low ∷ []) byte some alone = rw is_between-same refl
is_member-alone (low ∷ dash ∷ []) byte some alone = rw is_between-same refl
is_member-alone (low ∷ dash ∷ high ∷ more) byte some (inl short) = absurd (omega arith)
is_member-alone (low ∷ dash ∷ high ∷ more) byte some (inr other) =
    let no_range : (dash == 45) ≡ false = grind (arith, nat_tests) in
    rw (is_between-same, no_range) refl
