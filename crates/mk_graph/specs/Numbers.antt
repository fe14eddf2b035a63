-- Lists of nodes by their numbers.
use Rattle.std.specs.Prelude.{ℕ, ◌<◌, List, [], ◌∷◌}

-- each number is below the bound
abbrev pub AreBelow : ℕ → List ℕ → Type 0
AreBelow bound [] = Unit {0}
AreBelow bound (n ∷ more) = (n < bound) × AreBelow bound more

-- and so in each of several lists
abbrev pub EachBelow : ℕ → List (List ℕ) → Type 0
EachBelow bound [] = Unit {0}
EachBelow bound (nodes ∷ more) = AreBelow bound nodes × EachBelow bound more
