-- On which nodes a node depends, through sources.
use Rattle.std.specs.Prelude.{ℕ, zero, suc, ◌==◌, ◌||◌, Bool, false, List}
use Rattle.std.specs.List.{list_any}

-- the sources of each node
abbrev pub Sources : Type 0
Sources = ℕ → List ℕ

-- A node depends on another one, over at most so many sources one behind the other.
abbrev pub depends : Sources → ℕ → ℕ → ℕ → Bool
depends sources zero node other = false
depends sources (suc most) node other =
    list_any (λ source. (other == source) || depends sources most source other) (sources node)
