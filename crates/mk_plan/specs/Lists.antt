-- Lists.
use Rattle.std.specs.Prelude.{Bool, true, false, List, [], ◌∷◌}

-- nothing is on a list
abbrev pub is_nil : {A : Type 0} → List A → Bool
is_nil [] = true
is_nil (item ∷ items) = false
