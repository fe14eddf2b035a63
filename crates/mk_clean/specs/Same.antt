-- That a build by what commands did leaves what the clean build leaves.
use Rattle.std.specs.Prelude.{◌≡◌, ◌⊎◌, ℕ, ◌==◌, List, [], ◌∷◌, ◌++◌, true, if◌then◌else◌}
use Rattle.mk_clean.specs.Clean.{Plan, CleanJob, deeds_of, clean_build, clean_files, IsAmong}
use Rattle.mk_clean.specs.Clean.{IsWell}
use Rattle.mk_clean.specs.Declared.{IsDeclared, AreWellMade}
use Rattle.mk_clean.specs.Turns.{Build, Turn, looks_at, keeps, begins, starts_line, steps}
use Rattle.mk_clean.specs.Turns.{ends_line, fails, settles, removes, puts_meta, settled, failed}
use Rattle.mk_clean.specs.Turns.{first_build, after_turns, MayTurns}
use Rattle.mk_world.specs.Deeds.{Store}
use Rattle.mk_world.specs.Talks.{Meaning}
use Rattle.mk_world.specs.declared.step.Deed.{Deed}

-- the clean build goes well, and what it has at made files stands in these
pub record HasCleanFiles (meaning : Meaning) (plan : Plan) (store files : Store) : Type 0 where
  pub well : (one : CleanJob) → IsAmong one (clean_build meaning plan store) → IsWell plan one
  pub same : (one : CleanJob) → IsAmong one (clean_build meaning plan store)
      → (plan.node one.node).made ≡ true
      → files (plan.node one.node).name ≡ clean_files meaning plan store (plan.node one.node).name

-- Where what the jobs of the clean build read and change is declared, and a build of any turns has
-- settled all their nodes, the clean build goes well, and each made file has the bytes that it
-- gives it.
abbrev pub BuildsAreClean : Type 0
BuildsAreClean =
    (meaning : Meaning) (plan : Plan) (store : Store)
    → IsDeclared plan (clean_build meaning plan store)
    → AreWellMade plan (clean_build meaning plan store)
    → (turns : List Turn) → MayTurns meaning plan (first_build store) turns
    → ((one : CleanJob) → IsAmong one (clean_build meaning plan store)
    → (after_turns plan (first_build store) turns).stage one.node ≡ settled)
    → HasCleanFiles meaning plan store (after_turns plan (first_build store) turns).files

-- the step of a node's job in a turn
abbrev pub own_step : ℕ → Turn → List Deed
own_step node (looks_at other path) = []
own_step node (keeps other) = []
own_step node (begins other) = []
own_step node (starts_line other) = []
own_step node (steps other deed) = if other == node then deed ∷ [] else []
own_step node (ends_line other) = []
own_step node (fails other) = []
own_step node (settles other) = []
own_step node (removes other) = []
own_step node (puts_meta path bytes) = []

-- the steps of a node's job in these turns, in order
abbrev pub steps_of : ℕ → List Turn → List Deed
steps_of node [] = []
steps_of node (turn ∷ turns) = own_step node turn ++ steps_of node turns

-- these are the first steps of the node's job in the clean build
pub record AreFirstSteps (all : List CleanJob) (node : ℕ) (done : List Deed) : Type 0 where
  pub one : CleanJob
  pub among : IsAmong one all
  pub node_is : one.node ≡ node
  pub rest : List Deed
  pub are : deeds_of one ≡ done ++ rest

-- these are all its steps
pub record AreAllSteps (all : List CleanJob) (node : ℕ) (done : List Deed) : Type 0 where
  pub one : CleanJob
  pub among : IsAmong one all
  pub node_is : one.node ≡ node
  pub are : deeds_of one ≡ done

-- What is done in a build is done in the clean build: of each node's job nothing, or its first
-- steps; where the node is settled, nothing or all of them; and where it has failed, all of them,
-- and its job fails there, too.
pub record DoesCleanSteps (plan : Plan) (all : List CleanJob) (turns : List Turn) (build : Build)
    : Type 0
  where
    pub begun : (node : ℕ)
        → (steps_of node turns ≡ []) ⊎ AreFirstSteps all node (steps_of node turns)
    pub whole : (node : ℕ) → build.stage node ≡ settled
        → (steps_of node turns ≡ []) ⊎ AreAllSteps all node (steps_of node turns)
    pub broken : (node : ℕ) → build.stage node ≡ failed
        → (is : AreAllSteps all node (steps_of node turns)) × (IsWell plan is.one → ⊥)

-- Where what the jobs of the clean build read and change is declared, each step of a build is a
-- step of the same node in the clean build, at every moment, in whatever order the steps are done,
-- and whatever has failed.
abbrev pub StepsAreClean : Type 0
StepsAreClean =
    (meaning : Meaning) (plan : Plan) (store : Store)
    → IsDeclared plan (clean_build meaning plan store)
    → AreWellMade plan (clean_build meaning plan store)
    → (turns : List Turn) → MayTurns meaning plan (first_build store) turns
    → DoesCleanSteps plan (clean_build meaning plan store) turns
    (after_turns plan (first_build store) turns)
