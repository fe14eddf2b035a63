-- What conditions ask of the lines that were read.
use Rattle.std.specs.Prelude.{ℕ, List, [], ◌∷◌}
use Rattle.mk_values.specs.Facts.{Lists}
use Rattle.mk_graph.specs.Where.{has_commands, is_target, names_where}
use Rattle.mk_rules.specs.Rules.{Ruled, main_targets}

-- the requested names, or where there are none the main targets so far
abbrev pub wanted_of : Ruled → List (List ℕ) → List (List ℕ)
wanted_of r [] = main_targets r
wanted_of r (name ∷ names) = name ∷ names

-- The lists that answer `make`, `target` and `commands`.
abbrev pub lists_of : Ruled → List (List ℕ) → Lists
lists_of r requested = record {
  requested = wanted_of r requested;
  targets = names_where is_target r.nodes;
  with_commands = names_where has_commands r.nodes;
}
