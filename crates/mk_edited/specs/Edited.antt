-- Two clean builds of one plan: one of files, and one of these files with edits. Edits reach a node
-- whose job looked at an edited file, or at a made file of a node that they reach. The jobs of all
-- other nodes do the same in both builds; so only of the jobs that are reached something is left to
-- be asked.
use Rattle.std.specs.Prelude.{◌≡◌, ◌⊎◌, ℕ, Bool, true, false, List}
use Rattle.mk_clean.specs.Clean.{Changes, CleanJob, IsAmong, IsWell, LeavesIt, Plan, clean_build}
use Rattle.mk_clean.specs.Clean.{deeds_of}
use Rattle.mk_clean.specs.Declared.{AreWellMade, IsDeclared, IsMadeBefore, IsOwn, IsPrivate, IsSource}
use Rattle.mk_clean.specs.Declared.{LeavesFile}
use Rattle.mk_world.specs.Deeds.{Store}
use Rattle.mk_world.specs.Outer.{nothing_over, outer}
use Rattle.mk_world.specs.Talks.{Meaning}

-- which paths were edited
abbrev pub Edited : Type 0
Edited = List ℕ → Bool

-- which nodes the edits reach
abbrev pub Reached : Type 0
Reached = ℕ → Bool

-- a job looked outside itself at a path
abbrev pub LooksAt : CleanJob → List ℕ → Type 0
LooksAt one path = IsAmong path (outer nothing_over (deeds_of one))

-- Files that were edited at these paths alone, as far as no build leaves them.
abbrev pub AreEditedAt : Plan → Edited → Store → Store → Type 0
AreEditedAt plan edited files new =
    (path : List ℕ) → edited path ≡ false → plan.is_made path ≡ false → plan.is_meta path ≡ false
    → new path ≡ files path

-- The edits reach no other nodes: the job of another one looked at no edited path, and at no made
-- file of a node that they reach.
pub record ReachNoOther (plan : Plan) (all : List CleanJob) (edited : Edited) (reached : Reached) : Type 0 where
  pub unedited : (one : CleanJob) → IsAmong one all → reached one.node ≡ false → (path : List ℕ)
      → LooksAt one path → edited path ≡ false
  pub unreached : (one maker : CleanJob) → IsAmong one all → IsAmong maker all → reached one.node ≡ false
      → (plan.node maker.node).made ≡ true → LooksAt one (plan.node maker.node).name
      → reached maker.node ≡ false

-- What is left to be asked of the jobs that are reached, where these are all jobs with the edits,
-- and those all jobs without: what they read and change is declared, and they change nothing at
-- which a job looked that is not reached.
pub record ReachedAreDeclared (plan : Plan) (reached : Reached) (those these : List CleanJob) : Type 0 where
  pub reads : (one : CleanJob) → IsAmong one these → reached one.node ≡ true → (path : List ℕ)
      → LooksAt one path → IsSource plan these path ⊎ IsMadeBefore plan these one path
  pub changes : (one : CleanJob) → IsAmong one these → reached one.node ≡ true → (path : List ℕ)
      → Changes one path → IsOwn plan one path ⊎ IsPrivate plan these one path
  pub unseen : (one : CleanJob) → IsAmong one these → reached one.node ≡ true
      → (other : CleanJob) → IsAmong other those → reached other.node ≡ false → (path : List ℕ)
      → LooksAt other path → LeavesIt one path
  pub leaves : (one : CleanJob) → IsAmong one these → reached one.node ≡ true → IsWell plan one
      → (plan.node one.node).made ≡ true → LeavesFile plan one
  pub no_meta : (one : CleanJob) → IsAmong one these → reached one.node ≡ true → (path : List ℕ)
      → plan.is_meta path ≡ true → LeavesIt one path

-- a job of these is that of the same node, and does what it does
pub record DoesTheSame (one : CleanJob) (these : List CleanJob) : Type 0 where
  pub other : CleanJob
  pub among : IsAmong other these
  pub node : other.node ≡ one.node
  pub doings : other.doings ≡ one.doings

-- Then jobs that are not reached do what they did, and what all jobs read and change is declared.
pub record AreDeclaredBehind (plan : Plan) (reached : Reached) (those these : List CleanJob) : Type 0 where
  pub same : (one : CleanJob) → IsAmong one those → reached one.node ≡ false → DoesTheSame one these
  pub declared : IsDeclared plan these

abbrev pub EditedBuildsAreDeclared : Type 0
EditedBuildsAreDeclared =
    (meaning : Meaning) (plan : Plan) (files new : Store) (edited : Edited) (reached : Reached)
    → AreEditedAt plan edited files new
    → IsDeclared plan (clean_build meaning plan files) → AreWellMade plan (clean_build meaning plan files)
    → ReachNoOther plan (clean_build meaning plan files) edited reached
    → ReachedAreDeclared plan reached (clean_build meaning plan files) (clean_build meaning plan new)
    → AreDeclaredBehind plan reached (clean_build meaning plan files) (clean_build meaning plan new)
