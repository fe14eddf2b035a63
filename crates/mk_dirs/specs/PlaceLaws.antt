-- What holds of all places.
use Rattle.std.specs.Prelude.{◌≡◌, ℕ, ◌||◌, Bool, List, [], Some, None, is_some, if◌then◌else◌}
use Rattle.mk_dirs.specs.Places.{place}
use Rattle.mk_world.specs.Deeds.{Store}

-- Without directories to search, the place of a name is the name itself where it is a target or a
-- file, and else there is none.
abbrev pub WithoutDirectories : Type 0
WithoutDirectories =
    (files : Store) (target : Bool) (cwd name : List ℕ)
    → place files target [] cwd name ≡ (if target || is_some (files name) then Some name else None)
