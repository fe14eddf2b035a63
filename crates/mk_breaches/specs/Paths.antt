-- The paths of which records tell.
use Rattle.std.specs.Prelude.{ℕ, ◌||◌, Bool, List, [], ◌∷◌, ◌++◌, filter, flat_map, codes, nat_eq}
use Rattle.std.specs.List.{ends_with, list_any}
use Rattle.std.specs.Str.{bytes_eq}
use Rattle.mk_filemon.specs.Outer.{once}
use Rattle.mk_world.specs.declared.step.Op.{Op}
use Rattle.mk_world.specs.declared.step.Op.TheVariants.{Read, Miss, Write, Delete, Move}

-- the paths that a record names
abbrev pub paths_of : Op → List (List ℕ)
paths_of (Read path) = path ∷ []
paths_of (Miss path) = path ∷ []
paths_of (Write path) = path ∷ []
paths_of (Delete path) = path ∷ []
paths_of (Move from to) = from ∷ to ∷ []

-- those that it says were changed
abbrev pub changed_by : Op → List (List ℕ)
changed_by (Read path) = []
changed_by (Miss path) = []
changed_by (Write path) = path ∷ []
changed_by (Delete path) = path ∷ []
changed_by (Move from to) = from ∷ to ∷ []

-- whether a path is one of these, as records name them
abbrev pub has : List (List ℕ) → List ℕ → Bool
has paths path = list_any (λ one. bytes_eq one path) paths

-- Records read or change a path: one of them names it.
abbrev pub is_named : List Op → List ℕ → Bool
is_named ops path = list_any (λ op. has (paths_of op) path) ops

-- The paths that records say were changed, each once, in the order of the first record that says
-- so.
abbrev pub changed_paths : List Op → List (List ℕ)
changed_paths ops = once (flat_map changed_by ops)

-- a path that ends in `.meta`
abbrev pub is_meta_path : List ℕ → Bool
is_meta_path path = ends_with nat_eq path (codes ".meta")

-- The meta paths that records read or change, in the order of first record, and last this name
-- where it is one that no record names; each once.
abbrev pub meta_paths : List Op → List ℕ → List (List ℕ)
meta_paths ops name = filter is_meta_path (once (flat_map paths_of ops ++ name ∷ []))
