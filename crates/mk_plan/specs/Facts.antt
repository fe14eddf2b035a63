-- What conditions ask of the makefiles that were read.
use Rattle.std.specs.Prelude.{ℕ, List, [], ◌∷◌}
use Rattle.mk_values.specs.Facts.{Lists}
use Rattle.mk_graph.specs.Where.{has_commands, is_target, names_where}
use Rattle.mk_graph.specs.declared.Made.{Made}

-- the requested names, or where there are none the main targets
abbrev pub wanted_of : List (List ℕ) → List (List ℕ) → List (List ℕ)
wanted_of main [] = main
wanted_of main (name ∷ names) = name ∷ names

-- The lists that answer `make`, `target` and `commands`.
abbrev pub lists_of : Made → List (List ℕ) → Lists
lists_of made requested = record {
  requested = wanted_of made.main requested;
  targets = names_where is_target made.graph;
  with_commands = names_where has_commands made.graph;
}
