-- The files of a new world.
use Rattle.std.specs.Prelude.{◌≡◌, ℕ, ◌+◌, Bool, true, not, ◌&&◌, List, [], ◌∷◌}
use Rattle.std.specs.List.{list_any}
use Rattle.std.specs.Str.{bytes_eq}
use Rattle.std.specs.declared.alloc.Global.{Global}
use Rattle.std.specs.declared.vec.Vec.{Vec}
use Rattle.mk_bytes.specs.Paths.{clean}
use Rattle.mk_bytes.specs.declared.pair.Pair.{Pair}
use Rattle.mk_world.specs.declared.history.File.{File}

abbrev pub file_of : Pair → ℕ → File
file_of pair time = record { path = pair.name; bytes = pair.value; time = time }

-- files with the times that follow this one
abbrev pub base_after : ℕ → List Pair → List File
base_after time [] = []
base_after time (pair ∷ pairs) = file_of pair (time + 1) ∷ base_after (time + 1) pairs

-- The files get the times 1, 2, 3 and so on.
abbrev pub base_of : List Pair → List File
base_of pairs = base_after 0 pairs

abbrev pub has_path : List Pair → List ℕ → Bool
has_path pairs path = list_any (λ pair. bytes_eq pair.name path) pairs

-- the paths are clean, as they are named from this directory, and differ
abbrev pub are_clean : List ℕ → List Pair → Bool
are_clean cwd [] = true
are_clean cwd (file ∷ files) =
    not (has_path files file.name)
    && (bytes_eq (clean cwd file.name) file.name && are_clean cwd files)

-- a set holds the paths of these files, and no others
abbrev pub Holds : List (Vec ℕ Global) → List Pair → Type 0
Holds keys files =
    (path : List ℕ) → list_any (λ key. bytes_eq path key.items) keys ≡ has_path files path
