-- What jobs read and change, told from what is recorded of them: nothing here speaks of files or of
-- what commands do.
use Rattle.std.specs.Prelude.{◌≡◌, ◌≢◌, ◌⊎◌, ℕ, true, false, Bool, List}
use Rattle.std.specs.List.{Contains, list_any}
use Rattle.mk_clean.specs.Clean.{DependsOn, IsAmong, Plan, doings_on}
use Rattle.mk_clean.specs.Declared.{IsDeclared}
use Rattle.mk_declared.specs.Present.{present_jobs}
use Rattle.mk_filemon.specs.Outer.{left_written, outer_reads}
use Rattle.mk_meta.specs.TrueHistory.{deeds_of_job}
use Rattle.mk_world.specs.Deeds.{Store}
use Rattle.mk_world.specs.Records.{AreExact, alters}
use Rattle.mk_world.specs.Talks.{Meaning}
use Rattle.mk_world.specs.declared.step.Op.{Op}

-- what is recorded of the job of each node
abbrev pub Recorded : Type 0
Recorded = ℕ → List Op

-- whether records say that a path was changed
abbrev pub is_altered : List Op → List ℕ → Bool
is_altered ops path = list_any (alters path) ops

-- a path that no recorded job changed, and that no build leaves
pub record IsUnaltered (plan : Plan) (ops : Recorded) (path : List ℕ) : Type 0 where
  pub alone : (node : ℕ) → IsAmong node plan.order → is_altered (ops node) path ≡ false
  pub no_made : plan.is_made path ≡ false
  pub no_meta : plan.is_meta path ≡ false

-- the made file of a node on which this one depends
pub record IsMadeFor (plan : Plan) (node : ℕ) (path : List ℕ) : Type 0 where
  pub maker : ℕ
  pub among : IsAmong maker plan.order
  pub made : (plan.node maker).made ≡ true
  pub name : (plan.node maker).name ≡ path
  pub depends : DependsOn plan node maker

-- a path that is no node's, and that no other recorded job changed
pub record IsAlteredAlone (plan : Plan) (ops : Recorded) (node : ℕ) (path : List ℕ) : Type 0 where
  pub no_node : plan.is_node path ≡ false
  pub alone : (other : ℕ) → IsAmong other plan.order → other ≢ node
      → is_altered (ops other) path ≡ false

-- By its records a job looked outside itself only at sources and at made files on which its node
-- depends; it changed its own made file, and else only what is its own; it left its made file; and
-- it changed no meta file.
pub record AreDeclaredBy (plan : Plan) (ops : Recorded) : Type 0 where
  pub reads : (node : ℕ) → IsAmong node plan.order → (path : List ℕ)
      → IsAmong path (outer_reads (ops node))
      → IsUnaltered plan ops path ⊎ IsMadeFor plan node path
  pub changes : (node : ℕ) → IsAmong node plan.order → (path : List ℕ)
      → is_altered (ops node) path ≡ true
      → (((plan.node node).made ≡ true) × ((plan.node node).name ≡ path))
      ⊎ IsAlteredAlone plan ops node path
  pub leaves : (node : ℕ) → IsAmong node plan.order → (plan.node node).made ≡ true
      → Contains (left_written (ops node)) (plan.node node).name
  pub no_meta : (node : ℕ) → IsAmong node plan.order → (path : List ℕ) → plan.is_meta path ≡ true
      → is_altered (ops node) path ≡ false

-- Where the records are exactly those of what the jobs do on the files that stand, these are
-- declared.
abbrev pub RecordedJobsAreDeclared : Type 0
RecordedJobsAreDeclared =
    (meaning : Meaning) (plan : Plan) (files : Store) (ops : Recorded)
    → ((node : ℕ) → IsAmong node plan.order
    → AreExact (ops node) (deeds_of_job (doings_on meaning plan node files)))
    → AreDeclaredBy plan ops → IsDeclared plan (present_jobs meaning plan files)
