-- What a walk over sources has met.
use Rattle.std.specs.Prelude.{ℕ, nat_eq, nat_lt, Bool, false, not, List, [], ◌∷◌, Option, Some}
use Rattle.std.specs.Prelude.{None, if◌then◌else◌}
use Rattle.std.specs.List.{list_any}
use Rattle.indexmap.specs.IndexSet.{insert_key}

-- those of some numbers that are below a count, behind others, each once
abbrev pub met_too : ℕ → List ℕ → List ℕ → List ℕ
met_too count met [] = met
met_too count met (n ∷ more) = met_too count (if nat_lt n count then insert_key nat_eq met n else met) more

-- a path has a maker that is none of these sources
abbrev pub is_distant : List ℕ → Option ℕ → Bool
is_distant sources None = false
is_distant sources (Some maker) = not (list_any (nat_eq maker) sources)

-- it has one that is not met
abbrev pub is_unmet : List ℕ → Option ℕ → Bool
is_unmet met None = false
is_unmet met (Some maker) = not (list_any (nat_eq maker) met)
