-- Times and names on the lines of reasons.
use Rattle.std.specs.Prelude.{ℕ, List, ◌++◌, codes, decimal, false}
use Rattle.mk_filemon.specs.Escapes.{escaped}
use Rattle.mk_oodate.specs.declared.reason.Age.{Age}
use Rattle.mk_oodate.specs.declared.reason.Age.TheVariants as age
use Rattle.mk_world.specs.declared.time.When.{When}
use Rattle.mk_world.specs.declared.time.When.TheVariants as when

abbrev pub when_text : When → List ℕ
when_text when.Missing = codes "missing"
when_text when.Unknown = codes "unknown"
when_text (when.At time) = decimal time.0

-- one that is older than every target makes none out of date
abbrev pub age_text : Age → List ℕ
age_text age.New = codes "new"
age_text age.Old = codes "old"
age_text (age.At time) = decimal time.0

-- a source, its age, and the time of its target
abbrev pub newer_text : List ℕ → Age → When → List ℕ
newer_text source one target =
    codes "newer " ++ escaped false source ++ codes " " ++ age_text one ++ codes " " ++ when_text target

-- the times of a target and of its meta file
abbrev pub touched_text : When → When → List ℕ
touched_text target meta = codes "touched " ++ when_text target ++ codes " " ++ when_text meta

-- a path that was changed, its time, and the stamp of the job that found it
abbrev pub read_text : List ℕ → When → ℕ → List ℕ
read_text path time stamp =
    codes "read " ++ escaped false path ++ codes " " ++ when_text time ++ codes " " ++ decimal stamp

-- a label, and a path
abbrev pub path_text : List ℕ → List ℕ → List ℕ
path_text label path = label ++ escaped false path
