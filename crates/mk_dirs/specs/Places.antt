-- At which place a name stands: under the name itself, or in a directory that is searched.
use Rattle.std.specs.Prelude.{ℕ, ◌||◌, Bool, List, [], ◌∷◌, ◌++◌, Option, Some, None, is_some}
use Rattle.std.specs.Prelude.{if◌then◌else◌}
use Rattle.mk_bytes.specs.Bytes.{slash}
use Rattle.mk_bytes.specs.Paths.{clean, is_absolute}
use Rattle.mk_world.specs.Deeds.{Store}

-- the path of a name below a directory, as it is named from the current one
abbrev pub below : List ℕ → List ℕ → List ℕ → List ℕ
below cwd dir name = clean cwd (dir ++ slash ∷ name)

-- a path, where there is a file of it
abbrev pub if_there : Store → List ℕ → Option (List ℕ)
if_there files path = if is_some (files path) then Some path else None

abbrev pub found_below : Store → List ℕ → List ℕ → List ℕ → Option (List ℕ)
found_below files cwd dir name = if_there files (below cwd dir name)

abbrev pub or_else : Option (List ℕ) → Option (List ℕ) → Option (List ℕ)
or_else None other = other
or_else (Some path) other = Some path

-- the path below the first of these directories that has the file
abbrev pub first_below : Store → List ℕ → List (List ℕ) → List ℕ → Option (List ℕ)
first_below files cwd [] name = None
first_below files cwd (dir ∷ more) name =
    or_else (found_below files cwd dir name) (first_below files cwd more name)

-- only relative names are searched for
abbrev pub searched : Store → List (List ℕ) → List ℕ → List ℕ → Option (List ℕ)
searched files paths cwd name = if is_absolute name then None else first_below files cwd paths name

-- The place of a name on these files: the name itself where it is a target or a file that is there,
-- and else where it is found in the directories.
abbrev pub place : Store → Bool → List (List ℕ) → List ℕ → List ℕ → Option (List ℕ)
place files target paths cwd name =
    if target || is_some (files name) then Some name else searched files paths cwd name
