-- Paths, cleaned against the current directory.
use denote.Ref.{Bor}
use Rattle.std.specs.Prelude.{ℕ, Bool, false, not, ◌==◌, ◌||◌, ◌&&◌, ◌-◌, List, [], ◌∷◌, ◌++◌}
use Rattle.std.specs.Prelude.{length, take, Option, Some, None, if◌then◌else◌, map}
use Rattle.std.specs.List.{slice_split, list_all}
use Rattle.std.specs.Str.{bytes_eq}
use Rattle.mk_bytes.specs.Bytes.{slash, dot}

abbrev pub is_slash : ℕ → Bool
is_slash byte = byte == slash

-- the names on a path, between its slashes; some may be empty
abbrev pub names_on : List ℕ → List (List ℕ)
names_on path = slice_split is_slash path

-- the names that follow a slash, where there is one
abbrev pub names_after : Option (List ℕ) → List (List ℕ)
names_after None = []
names_after (Some rest) = names_on rest

-- One step from a directory, which is the list of the names that lead to it from the root:
-- an empty name and `.` stay, `..` goes up, and any other name goes down.
abbrev pub step : List (List ℕ) → List ℕ → List (List ℕ)
step dir name =
    if bytes_eq name [] || bytes_eq name (dot ∷ []) then dir
    else (if bytes_eq name (dot ∷ dot ∷ []) then take (length dir - 1) dir
    else dir ++ name ∷ [])

-- where the names of a path lead from a directory
abbrev pub walk : List (List ℕ) → List (List ℕ) → List (List ℕ)
walk dir [] = dir
walk dir (name ∷ names) = walk (step dir name) names

abbrev pub is_absolute : List ℕ → Bool
is_absolute [] = false
is_absolute (byte ∷ bytes) = byte == slash

-- the names that lead to a path from the root
abbrev pub place : List ℕ → List ℕ → List (List ℕ)
place cwd path = walk (if is_absolute path then [] else walk [] (names_on cwd)) (names_on path)

-- what follows a directory's names, where a place lies in it
abbrev pub below : List (List ℕ) → List (List ℕ) → Option (List (List ℕ))
below [] names = Some names
below (d ∷ dir) [] = None
below (d ∷ dir) (name ∷ names) = if bytes_eq d name then below dir names else None

-- names with a slash before each
abbrev pub from_root : List (List ℕ) → List ℕ
from_root [] = []
from_root (name ∷ names) = slash ∷ name ++ from_root names

-- The current directory is `.`, what lies in it is written from it, and the root is `/`.
abbrev pub spelled : List (List ℕ) → Option (List (List ℕ)) → List ℕ
spelled [] None = slash ∷ []
spelled (name ∷ names) None = from_root (name ∷ names)
spelled names (Some []) = dot ∷ []
spelled names (Some (first ∷ rest)) = first ++ from_root rest

-- A path as it is named from the current directory.
abbrev pub clean : List ℕ → List ℕ → List ℕ
clean cwd path = spelled (place cwd path) (below (walk [] (names_on cwd)) (place cwd path))

-- a name that is a step down
abbrev pub is_name : List ℕ → Bool
is_name name = not (bytes_eq name [] || bytes_eq name (dot ∷ []) || bytes_eq name (dot ∷ dot ∷ []))

-- An absolute path in its one clean form: the root, or names with one slash before each.
abbrev pub is_clean_directory : List ℕ → Bool
is_clean_directory [] = false
is_clean_directory (byte ∷ rest) =
    byte == slash && (bytes_eq rest [] || list_all is_name (names_on rest))

-- the names that slices hold
abbrev pub seen : List (Bor (List ℕ)) → List (List ℕ)
seen slices = map (λ slice. slice.now) slices
