-- Why a target for which the test gives no reason may be kept.
use Rattle.std.specs.Prelude.{◌≡◌, ℕ, List, [], ◌∷◌, ◌++◌, Option, Some}
use Rattle.std.specs.List.{Contains}
use Rattle.mk_filemon.specs.declared.record.Rec.{Rec}
use Rattle.mk_meta.specs.Jobs.{command_in, working}
use Rattle.mk_meta.specs.Texts.{meta_text}
use Rattle.mk_meta.specs.TrueHistory.{IsTrue, deeds_of_job, meta_path}
use Rattle.mk_meta.specs.declared.meta.Meta.{Meta}
use Rattle.mk_oodate.specs.Fresh.{IsOlderThan, Looks, PathsAreFresh}
use Rattle.mk_world.specs.Calls.{when_of}
use Rattle.mk_world.specs.History.{FileMap, MayAll, after_all, contents, first_state}
use Rattle.mk_world.specs.Outer.{nothing_over, over_deeds}
use Rattle.mk_world.specs.Talks.{Meaning, NextOf}
use Rattle.mk_world.specs.declared.history.File.{File}
use Rattle.mk_world.specs.declared.history.Happening.{Happening}
use Rattle.mk_world.specs.declared.history.Happening.TheVariants.{Stamp, Put}
use Rattle.mk_world.specs.declared.time.When.{When}
use Rattle.mk_clean.specs.Jobs.{job}

-- what had happened at a moment behind the job that a meta file tells of
abbrev pub until : {next : NextOf} {meta : Meta} {events : List Happening} → IsTrue next meta events
    → List Happening → List Happening
until {meta = meta} is later =
    is.before ++ Stamp (meta_path meta.target) is.first meta.stamp.0 ∷ (is.during
    ++ Put (meta_path meta.target) (meta_text meta) is.time ∷ later)

-- the files, each path as it stood at a moment of its own behind that job
abbrev pub seen_at : {next : NextOf} {meta : Meta} {events : List Happening} → List File
    → IsTrue next meta events → (List ℕ → List Happening) → FileMap
seen_at base is later = λ path. (after_all (first_state base) (until is (later path))).files path

-- Each look saw what stood at the moment of its path.
abbrev pub AreLooksAt : FileMap → Looks → Type 0
AreLooksAt files looks =
    (path : List ℕ) (when : When) → Contains looks (path, when) → when ≡ when_of (files path)

-- A meta file tells what happened. By looks at moments of their own behind its job, its target was
-- changed last before the meta file was written, and each path of its records is as the job left
-- it. Then the job's lines, on what these looks saw, do what they did then, and what they leave at
-- the target is what stands there.
abbrev pub KeptTargetsStand : Type 0
KeptTargetsStand =
    (meaning : Meaning) (base : List File) (meta : Meta) (events : List Happening)
    (is : IsTrue meaning.next meta events) (later : List ℕ → List Happening) (looks : Looks)
    (records : List Rec)
    → ((path : List ℕ) → MayAll meaning (first_state base) (until is (later path)))
    → AreLooksAt (seen_at base is later) looks → meta.records ≡ Some records
    → IsOlderThan (record { 0 = is.time }) (when_of (seen_at base is later meta.target))
    → PathsAreFresh looks [] meta.stamp records
    → (job meaning (command_in meta) (working meta.lines) (contents (seen_at base is later)) ≡ is.doings)
    × ((stands : Option (List ℕ))
    → over_deeds nothing_over (deeds_of_job is.doings) meta.target ≡ Some stands
    → contents (seen_at base is later) meta.target ≡ stands)
