-- The records of steps against the steps themselves.
use Rattle.std.specs.Prelude.{◌≡◌, ◌↔◌, ℕ, Bool, true, false, List, [], ◌∷◌, map, Option, Some}
use Rattle.std.specs.Prelude.{None}
use Rattle.std.specs.List.{Contains}
use Rattle.mk_world.specs.Records.{op_of, EachLook, Tell}
use Rattle.mk_world.specs.Deeds.{Store}
use Rattle.mk_world.specs.Outer.{AgreeOn, nothing_over, outer, over_deeds}
use Rattle.mk_world.specs.Talks.{Meaning, does}
use Rattle.mk_world.specs.declared.command.Cmd.{Cmd}
use Rattle.mk_world.specs.declared.step.Deed.{Deed}
use Rattle.mk_world.specs.declared.step.Op.{Op}
use Rattle.mk_filemon.specs.Outer.{once, outer_reads, outer_found, outer_missed, left_written}

-- The outer reads of the records of steps are what the steps took from outside, each path once.
abbrev pub TellOuterReads : Type 0
TellOuterReads = (deeds : List Deed) → outer_reads (map op_of deeds) ≡ once
    (outer nothing_over deeds)

-- whether a file stands, by the last change of its path, if there is one
abbrev pub stands_by : Option (Option (List ℕ)) → Bool
stands_by None = false
stands_by (Some None) = false
stands_by (Some (Some bytes)) = true

-- A path is left written by the records of steps exactly where the steps left a file there.
abbrev pub TellWritten : Type 0
TellWritten =
    (deeds : List Deed) (path : List ℕ)
    → Contains (left_written (map op_of deeds)) path
    ↔ (stands_by (over_deeds nothing_over deeds path) ≡ true)

-- A look that saw a file is told among the paths that are found, one that saw none among those that
-- are missed.
abbrev pub IsToldBy : List Op → List ℕ → Option (List ℕ) → Type 0
IsToldBy records path (Some bytes) = Contains (outer_found records) path
IsToldBy records path None = Contains (outer_missed records) path

-- By records that tell of steps each look of the steps at a path that no earlier one of them has
-- changed is among the outer reads, as it was.
abbrev pub TellLooks : Type 0
TellLooks =
    (records : List Op) (deeds : List Deed) → Tell records deeds
    → EachLook (IsToldBy records) nothing_over deeds

-- Two maps that agree on the recorded outer reads of a doing on the first give the same doing.
abbrev pub SameByRecords : Meaning → Type 0
SameByRecords meaning =
    (cmd : Cmd) (first second : Store)
    → AgreeOn first second (outer_reads (map op_of (does meaning cmd first).deeds))
    → does meaning cmd second ≡ does meaning cmd first
