-- What steps take from outside themselves.
use Rattle.std.specs.Prelude.{◌≡◌, ℕ, List, [], ◌∷◌, ◌++◌, Option, Some, None, if◌then◌else◌}
use Rattle.std.specs.Str.{bytes_eq}
use Rattle.mk_world.specs.Deeds.{Store, Spot, saw, changes}
use Rattle.mk_world.specs.Talks.{Meaning, does}
use Rattle.mk_world.specs.declared.command.Cmd.{Cmd}
use Rattle.mk_world.specs.declared.step.Deed.{Deed}

-- what stands at some paths in place of what stood before: the changes so far
abbrev pub Over : Type 0
Over = List ℕ → Option (Option (List ℕ))

abbrev pub nothing_over : Over
nothing_over = λ path. None

abbrev pub over_spot : Over → Spot → Over
over_spot over spot = λ path. if bytes_eq spot.path path then Some spot.bytes else over path

abbrev pub over_spots : Over → List Spot → Over
over_spots over [] = over
over_spots over (spot ∷ spots) = over_spots (over_spot over spot) spots

abbrev pub over_deed : Over → Deed → Over
over_deed over deed = over_spots over (changes deed)

abbrev pub over_deeds : Over → List Deed → Over
over_deeds over [] = over
over_deeds over (deed ∷ deeds) = over_deeds (over_deed over deed) deeds

abbrev pub or_stood : Option (Option (List ℕ)) → Option (List ℕ) → Option (List ℕ)
or_stood None stood = stood
or_stood (Some stands) stood = stands

-- a map with the changes so far
abbrev pub on : Over → Store → Store
on over store = λ path. or_stood (over path) (store path)

abbrev pub outer_at : Option (Option (List ℕ)) → List ℕ → List (List ℕ)
outer_at None path = path ∷ []
outer_at (Some stands) path = []

abbrev pub outer_spot : Over → Option Spot → List (List ℕ)
outer_spot over None = []
outer_spot over (Some spot) = outer_at (over spot.path) spot.path

-- The outer reads of steps: the paths that were looked at, moved away included, and that no
-- earlier one of these steps had changed.
abbrev pub outer : Over → List Deed → List (List ℕ)
outer over [] = []
outer over (deed ∷ deeds) = outer_spot over (saw deed) ++ outer (over_deed over deed) deeds

-- two maps have the same at these paths
abbrev pub AgreeOn : Store → Store → List (List ℕ) → Type 0
AgreeOn first second [] = Unit {0}
AgreeOn first second (path ∷ paths) = (first path ≡ second path) × AgreeOn first second paths

-- Two maps that agree on the outer reads of a doing on the first give the same doing.
abbrev pub SameDoing : Meaning → Type 0
SameDoing meaning =
    (cmd : Cmd) (first second : Store)
    → AgreeOn first second (outer nothing_over (does meaning cmd first).deeds)
    → does meaning cmd second ≡ does meaning cmd first
