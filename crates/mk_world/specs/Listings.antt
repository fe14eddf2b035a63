-- The names directly below a directory.
use Rattle.std.specs.Prelude.{◌≡◌, ◌≢◌, ℕ, ◌==◌, List, [], ◌∷◌, ◌++◌, map, Option, Some, None}
use Rattle.std.specs.Prelude.{IsSome, IsTrue, if◌then◌else◌, ◌↔◌}
use Rattle.std.specs.Cmp.Lexicographic.{slice_cmp}
use Rattle.std.specs.List.{before_first}
use Rattle.std.specs.List.Sorted.{IsStrictlySortedBy}
use Rattle.std.specs.Option.{option_map}
use Rattle.std.specs.Ordering.{nat_cmp}
use Rattle.std.specs.Str.{bytes_eq}
use Rattle.std.specs.declared.alloc.Global.{Global}
use Rattle.std.specs.declared.vec.Vec.{Vec}
use Rattle.mk_bytes.specs.Bytes.{dot, slash}
use Rattle.mk_bytes.specs.Paths.{is_absolute, is_slash}
use Rattle.mk_bytes.specs.Texts.{is_among}
use Rattle.mk_world.specs.Deeds.{Store}

-- in the order of their bytes, each once
abbrev pub AreInOrder : List (List ℕ) → Type 0
AreInOrder names = IsStrictlySortedBy (slice_cmp nat_cmp) names

-- what the keys of a set stand for
abbrev pub texts_of : List (Vec ℕ Global) → List (List ℕ)
texts_of keys = map (λ key. key.items) keys

-- what follows the beginning of a path, where it begins so
abbrev pub behind : List ℕ → List ℕ → Option (List ℕ)
behind [] path = Some path
behind (byte ∷ start) [] = None
behind (byte ∷ start) (first ∷ path) = if first == byte then behind start path else None

-- What a path has behind a directory that it lies below, by its bytes: below `.` lies each relative
-- path, below `/` each absolute one, and below another directory what begins with it and a slash.
abbrev pub below : List ℕ → List ℕ → Option (List ℕ)
below dir path =
    if bytes_eq dir (dot ∷ []) then (if is_absolute path then None else Some path)
    else (if bytes_eq dir (slash ∷ []) then behind (slash ∷ []) path
    else behind (dir ++ slash ∷ []) path)

-- a path up to its first slash
abbrev pub first_name : List ℕ → List ℕ
first_name path = before_first is_slash path

-- the name directly below a directory on the way to a path, where the path lies below it
abbrev pub name_below : List ℕ → List ℕ → Option (List ℕ)
name_below dir path = option_map first_name (below dir path)

-- a file stands below a directory by this name, or in a directory by this name there
pub record StandsBelow (store : Store) (dir name : List ℕ) : Type 0 where
  pub path : List ℕ
  pub stands : IsSome (store path)
  pub named : name_below dir path ≡ Some name

-- the names of all that stands directly below a directory, each once, in the order of their bytes
pub record AreNamesBelow (store : Store) (dir : List ℕ) (names : List (List ℕ)) : Type 0 where
  pub ordered : AreInOrder names
  pub are : (name : List ℕ) → IsTrue (is_among names name) ↔ StandsBelow store dir name

-- What a directory holds on a map: there is a directory where a file stands below it, and `.` is
-- always there.
abbrev pub Lists : Store → List ℕ → Option (List (List ℕ)) → Type 0
Lists store dir None = (dir ≢ dot ∷ []) × AreNamesBelow store dir []
Lists store dir (Some names) = (names ≡ [] → dir ≡ dot ∷ []) × AreNamesBelow store dir names

-- A map has one answer to what a directory holds.
abbrev pub OneListing : Type 0
OneListing =
    (store : Store) (dir : List ℕ) (first second : Option (List (List ℕ)))
    → Lists store dir first → Lists store dir second → second ≡ first
