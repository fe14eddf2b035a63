-- The causes of faults: an object of the outside counts its faults.
use Rattle.std.specs.Prelude.{◌≡◌, ◌⊎◌, ◌-◌, ◌^◌, ℕ, ◌<◌, ◌≤◌, Result, Err}

-- the last value of a count of faults, at which it stands still
abbrev pub last_count : ℕ
last_count = 2 ^ 64 - 1

-- a count rose, or stood at its end
abbrev pub Rose : ℕ → ℕ → Type 0
Rose before after = (before < after) ⊎ (last_count ≤ before)

-- An answer of a call, by the count before and after it: the count does not fall, a rise is
-- answered as a failure, and a failure is answered only where the count rose or is at its end.
pub record HasCause {T E : Type 0} (failed : E) (before after : ℕ) (answer : Result T E) : Type 0
  where
    pub kept : before ≤ after
    pub answered : before < after → answer ≡ Err failed
    pub rose : answer ≡ Err failed → Rose before after
