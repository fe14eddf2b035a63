-- Places that rise.
use Rattle.std.specs.Prelude.{◌≡◌, ℕ, ◌^◌, ◌≤◌, nat_lt, Bool, true, ◌&&◌, List, [], ◌∷◌}

-- whether each of these places is before the next one, and the last is before this one
abbrev pub rise_below : List ℕ → ℕ → Bool
rise_below [] bound = true
rise_below (place ∷ []) bound = nat_lt place bound
rise_below (place ∷ next ∷ more) bound = nat_lt place next && rise_below (next ∷ more) bound

-- whether each of these places of a plan is before the next one
abbrev pub rise : List ℕ → Bool
rise places = rise_below places (2 ^ 32)

-- the last of some places
pub record IsLast (place : ℕ) (has : ℕ → Bool) : Type 0 where
  pub counts : has place ≡ true
  pub most : (one : ℕ) → has one ≡ true → one ≤ place
