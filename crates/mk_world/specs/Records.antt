-- What the records of steps tell of them. Records may have more looks than the steps, and fewer
-- writes: so it is with what a recorder sees of real programs.
use Rattle.std.specs.Prelude.{◌≡◌, ℕ, ◌||◌, ◌&&◌, Bool, true, false, not, List, [], ◌∷◌, ◌++◌, map}
use Rattle.std.specs.Prelude.{Option, Some, None}
use Rattle.std.specs.List.{list_any}
use Rattle.std.specs.Str.{bytes_eq}
use Rattle.mk_world.specs.Deeds.{Spot, saw}
use Rattle.mk_world.specs.Outer.{Over, nothing_over, over_deed, over_deeds}
use Rattle.mk_world.specs.declared.step.Deed.{Deed}
use Rattle.mk_world.specs.declared.step.Deed.TheVariants as deed
use Rattle.mk_world.specs.declared.step.Op.{Op}
use Rattle.mk_world.specs.declared.step.Op.TheVariants as op

-- the record of a step
abbrev pub op_of : Deed → Op
op_of (deed.Read path bytes) = op.Read path
op_of (deed.Miss path) = op.Miss path
op_of (deed.Write path bytes) = op.Write path
op_of (deed.Delete path) = op.Delete path
op_of (deed.Move from to bytes) = op.Move from to

-- whether a record finds a file at a path: reads it, or moves it away
abbrev pub finds : List ℕ → Op → Bool
finds path (op.Read at) = bytes_eq at path
finds path (op.Miss at) = false
finds path (op.Write at) = false
finds path (op.Delete at) = false
finds path (op.Move from to) = bytes_eq from path

-- whether it misses one there
abbrev pub misses : List ℕ → Op → Bool
misses path (op.Read at) = false
misses path (op.Miss at) = bytes_eq at path
misses path (op.Write at) = false
misses path (op.Delete at) = false
misses path (op.Move from to) = false

-- whether it says that a path was changed
abbrev pub alters : List ℕ → Op → Bool
alters path (op.Read at) = false
alters path (op.Miss at) = false
alters path (op.Write at) = bytes_eq at path
alters path (op.Delete at) = bytes_eq at path
alters path (op.Move from to) = bytes_eq from path || bytes_eq to path

-- what a look says: that a file stands, or that none does
abbrev pub says : Option (List ℕ) → List ℕ → Op → Bool
says (Some bytes) = finds
says None = misses

-- whether records say so of a path before one of them says that it was changed
abbrev pub is_told : (Op → Bool) → (Op → Bool) → List Op → Bool
is_told looks changes [] = false
is_told looks changes (one ∷ more) = looks one || (not (changes one) && is_told looks changes more)

-- a look at a path is told by records, as one that found a file, or as one that missed it
abbrev pub IsToldIn : List Op → List ℕ → Option (List ℕ) → Type 0
IsToldIn records path bytes = is_told (says bytes path) (alters path) records ≡ true

-- what is told of a look at a path that the changes so far have left alone
abbrev pub LookAt : (List ℕ → Option (List ℕ) → Type 0) → Over → Option Spot → Type 0
LookAt told over None = Unit {0}
LookAt told over (Some spot) = over spot.path ≡ None → told spot.path spot.bytes

-- One step after another: each look at a path that no earlier step has changed is told.
abbrev pub EachLook : (List ℕ → Option (List ℕ) → Type 0) → Over → List Deed → Type 0
EachLook told over [] = Unit {0}
EachLook told over (deed ∷ deeds) =
    LookAt told over (saw deed) × EachLook told (over_deed over deed) deeds

-- Records tell of steps: of each look at a path that no earlier step has changed, and of no change
-- but those of the steps.
pub record Tell (records : List Op) (deeds : List Deed) : Type 0 where
  pub looks : EachLook (IsToldIn records) nothing_over deeds
  pub changes : (path : List ℕ) → over_deeds nothing_over deeds path ≡ None
      → list_any (alters path) records ≡ false

-- records, where there are any, tell of these steps
abbrev pub AreRecords : Option (List Op) → List Deed → Type 0
AreRecords None deeds = Unit {0}
AreRecords (Some records) deeds = Tell records deeds

-- Records are exact: they are those of the steps, one for each, in order.
abbrev pub AreExact : List Op → List Deed → Type 0
AreExact records deeds = records ≡ map op_of deeds

-- Exact records tell of the steps.
abbrev pub ExactRecordsTell : Type 0
ExactRecordsTell = (deeds : List Deed) → Tell (map op_of deeds) deeds

-- What tells of steps and what tells of those behind them tell of both.
abbrev pub RecordsAreJoined : Type 0
RecordsAreJoined =
    (first second : List Op) (before behind : List Deed) → Tell first before → Tell second behind
    → Tell (first ++ second) (before ++ behind)
