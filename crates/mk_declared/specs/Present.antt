-- The jobs of a plan on the files that stand. Where each made file stands as its job would leave it
-- there, and what these jobs read and change is declared, the clean build does what they do: so
-- whether it is declared can be told from the files that stand, or from what is recorded of the
-- jobs that made them.
use Rattle.std.specs.Prelude.{◌≡◌, ℕ, true, List, [], ◌∷◌, map, Option, Some}
use Rattle.mk_clean.specs.Clean.{AllWell, CleanJob, IsAmong, Plan, clean_build, clean_files}
use Rattle.mk_clean.specs.Clean.{doings_on}
use Rattle.mk_clean.specs.Declared.{AreWellMade, IsDeclared}
use Rattle.mk_meta.specs.TrueHistory.{deeds_of_job}
use Rattle.mk_world.specs.Deeds.{Store}
use Rattle.mk_world.specs.Outer.{nothing_over, over_deeds}
use Rattle.mk_world.specs.Talks.{Meaning}

-- the job of a node on the files that stand
abbrev pub present_job : Meaning → Plan → Store → ℕ → CleanJob
present_job meaning plan files node =
    record { node = node; before = files; doings = doings_on meaning plan node files }

abbrev pub present_jobs : Meaning → Plan → Store → List CleanJob
present_jobs meaning plan files = map (present_job meaning plan files) plan.order

-- a job with the files that stand before it
abbrev pub at : Store → CleanJob → CleanJob
at files one = record { node = one.node; before = files; doings = one.doings }

-- A node stands: its job goes well on the files that stand, and what it leaves at the node's path
-- stands there.
pub record Stands (meaning : Meaning) (plan : Plan) (files : Store) (node : ℕ) : Type 0 where
  pub well : AllWell (plan.node node).lines (doings_on meaning plan node files)
  pub left : (bytes : Option (List ℕ))
      → over_deeds nothing_over (deeds_of_job (doings_on meaning plan node files)) (plan.node node).name ≡ Some bytes
      → files (plan.node node).name ≡ bytes

-- what the clean build does where all made files stand
pub record IsPresent (meaning : Meaning) (plan : Plan) (files : Store) : Type 0 where
  -- its jobs do what those on the files that stand do
  pub jobs : map (at files) (clean_build meaning plan files) ≡ present_jobs meaning plan files
  -- what they read and change is declared
  pub declared : IsDeclared plan (clean_build meaning plan files)
  -- and the made files are those that it leaves
  pub same : (node : ℕ) → IsAmong node plan.order → (plan.node node).made ≡ true
      → clean_files meaning plan files (plan.node node).name ≡ files (plan.node node).name

abbrev pub PresentJobsAreClean : Type 0
PresentJobsAreClean =
    (meaning : Meaning) (plan : Plan) (files : Store)
    → IsDeclared plan (present_jobs meaning plan files)
    → AreWellMade plan (present_jobs meaning plan files)
    → ((node : ℕ) → IsAmong node plan.order → (plan.node node).made ≡ true → Stands meaning plan files node)
    → IsPresent meaning plan files
