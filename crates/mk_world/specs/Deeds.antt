-- What a step does to the files, and what it tells of them.
use Rattle.std.specs.Prelude.{◌≡◌, ℕ, List, [], ◌∷◌, Option, Some, None, if◌then◌else◌}
use Rattle.std.specs.Str.{bytes_eq}
use Rattle.mk_world.specs.declared.step.Deed.{Deed}
use Rattle.mk_world.specs.declared.step.Deed.TheVariants.{Read, Miss, Write, Delete, Move}

-- the bytes at each path, or none where it is missing
abbrev pub Store : Type 0
Store = List ℕ → Option (List ℕ)

-- a path, and the bytes that stand there, or that it is missing
pub record Spot : Type 0 where
  pub path : List ℕ
  pub bytes : Option (List ℕ)

-- what a step found
abbrev pub saw : Deed → Option Spot
saw (Read path bytes) = Some (record { path = path; bytes = Some bytes })
saw (Miss path) = Some (record { path = path; bytes = None })
saw (Write path bytes) = None
saw (Delete path) = None
saw (Move from to bytes) = Some (record { path = from; bytes = Some bytes })

-- what a step changed, in order
abbrev pub changes : Deed → List Spot
changes (Read path bytes) = []
changes (Miss path) = []
changes (Write path bytes) = record { path = path; bytes = Some bytes } ∷ []
changes (Delete path) = record { path = path; bytes = None } ∷ []
changes (Move from to bytes) =
    record { path = from; bytes = None } ∷ record { path = to; bytes = Some bytes } ∷ []

abbrev pub put : Store → Spot → Store
put store spot = λ path. if bytes_eq spot.path path then spot.bytes else store path

abbrev pub put_all : Store → List Spot → Store
put_all store [] = store
put_all store (spot ∷ spots) = put_all (put store spot) spots

abbrev pub after_deed : Store → Deed → Store
after_deed store deed = put_all store (changes deed)

abbrev pub after_deeds : Store → List Deed → Store
after_deeds store [] = store
after_deeds store (deed ∷ deeds) = after_deeds (after_deed store deed) deeds

-- what was found stands there
abbrev pub Holds : Store → Option Spot → Type 0
Holds store None = Unit {0}
Holds store (Some spot) = store spot.path ≡ spot.bytes

abbrev pub IsRight : Store → Deed → Type 0
IsRight store deed = Holds store (saw deed)

-- one after another, the steps find what stands there
abbrev pub Meets : Store → List Deed → Type 0
Meets store [] = Unit {0}
Meets store (deed ∷ deeds) = IsRight store deed × Meets (after_deed store deed) deeds
