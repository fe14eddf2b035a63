-- What the maps of the code stand for.
use Rattle.std.specs.Prelude.{ℕ, List, [], ◌∷◌, ◌++◌, map, if◌then◌else◌}
use Rattle.std.specs.Borrow.{Bor}
use Rattle.std.specs.Map.{lookup}
use Rattle.std.specs.Option.{unwrap_or}
use Rattle.std.specs.Str.{bytes_eq}
use Rattle.mk_bytes.specs.Texts.{is_among}
use Rattle.mk_breaches.specs.Rows.{Rows, no_row}
use Rattle.mk_breaches.specs.declared.table.Table.{Table}

-- the row of each path
abbrev pub rows_in : Table → Rows
rows_in table = λ path. unwrap_or (lookup (λ key. bytes_eq path key.now) table.rows.entries) no_row

-- what the keys of a set stand for
abbrev pub texts_of : List (Bor (List ℕ)) → List (List ℕ)
texts_of keys = map (λ key. key.now) keys

-- a path behind others, where it is not among them
abbrev pub noted : List (List ℕ) → List ℕ → List (List ℕ)
noted paths path = if is_among paths path then paths else paths ++ path ∷ []

abbrev pub all_noted : List (List ℕ) → List (List ℕ) → List (List ℕ)
all_noted paths [] = paths
all_noted paths (path ∷ more) = all_noted (noted paths path) more
