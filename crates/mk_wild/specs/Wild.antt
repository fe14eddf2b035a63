-- For which paths a name stands.
use Rattle.std.specs.Prelude.{◌≡◌, ◌↔◌, ◌⊎◌, ℕ, true, List, [], ◌∷◌, ◌++◌, map, filter, Option}
use Rattle.std.specs.Prelude.{Some, None, IsTrue}
use Rattle.mk_bytes.specs.Texts.{is_among}
use Rattle.mk_world.specs.Calls.{Adds, OwnList}
use Rattle.mk_world.specs.Deeds.{Store}
use Rattle.mk_world.specs.History.{State}
use Rattle.mk_world.specs.Listings.{AreInOrder, Lists, StandsBelow}
use Rattle.mk_world.specs.Talks.{Meaning}
use Rattle.mk_world.specs.declared.history.Happening.{Happening}
use Rattle.mk_world.specs.declared.history.Happening.TheVariants.{Look}
use Rattle.mk_world.specs.declared.history.History.{History}
use Rattle.mk_wild.specs.Names.{before_name, directory_of, last_name, takes}

-- the path of a name beside a pattern
abbrev pub beside : List ℕ → List ℕ → List ℕ
beside pattern name = before_name pattern ++ name

-- the paths of those names that a pattern takes, in their order
abbrev pub taken_of : List ℕ → List (List ℕ) → List (List ℕ)
taken_of pattern names =
    map (λ name. beside pattern name) (filter (λ name. takes (last_name pattern) name) names)

-- The paths that a pattern stands for, by what its directory holds. Where there is no such
-- directory it stands for nothing.
abbrev pub taken : List ℕ → Option (List (List ℕ)) → List (List ℕ)
taken pattern None = []
taken pattern (Some names) = taken_of pattern names

-- a pattern stands for these paths, by one look at its directory
pub record IsTaken (meaning : Meaning) (before after : Option History) (pattern : List ℕ)
    (paths : List (List ℕ)) : Type 0
  where
    pub names : Option (List (List ℕ))
    pub listed : Adds meaning before after (OwnList (directory_of pattern) names)
    pub are : paths ≡ taken pattern names

-- a look at a directory, if any
abbrev pub OwnAtMost : List ℕ → State → List Happening → Type 0
OwnAtMost dir state own = (own ≡ []) ⊎ (own ≡ Look dir ∷ [])

-- a path that a pattern stands for on a map: something stands there or below it, in the pattern's
-- directory, by a name that the pattern takes
pub record IsMatch (store : Store) (pattern path : List ℕ) : Type 0 where
  pub name : List ℕ
  pub is : path ≡ beside pattern name
  pub stands : StandsBelow store (directory_of pattern) name
  pub taken : takes (last_name pattern) name ≡ true

-- all of them, each once, in the order of their bytes
pub record AreMatches (store : Store) (pattern : List ℕ) (paths : List (List ℕ)) : Type 0 where
  pub ordered : AreInOrder paths
  pub are : (path : List ℕ) → IsTrue (is_among paths path) ↔ IsMatch store pattern path

-- What a pattern stands for is exact: where its directory is listed as it stands, these are all
-- paths that match, and no others.
abbrev pub PatternsAreExact : Type 0
PatternsAreExact =
    (store : Store) (pattern : List ℕ) (names : Option (List (List ℕ)))
    → Lists store (directory_of pattern) names → AreMatches store pattern (taken pattern names)
