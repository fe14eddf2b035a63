-- What a plan has to say of what its jobs read and change.
use Rattle.std.specs.Prelude.{◌≡◌, ◌≢◌, ◌⊎◌, ℕ, List, Some, true, false}
use Rattle.mk_clean.specs.Clean.{Plan, DependsOn, CleanJob, deeds_of, IsWell, Changes, LeavesIt}
use Rattle.mk_clean.specs.Clean.{IsAmong, StandsBefore}
use Rattle.mk_world.specs.Outer.{nothing_over, outer, over_deeds}

-- a path that no job changes, and that no build leaves
pub record IsSource (plan : Plan) (all : List CleanJob) (path : List ℕ) : Type 0 where
  pub alone : (one : CleanJob) → IsAmong one all → LeavesIt one path
  pub no_made : plan.is_made path ≡ false
  pub no_meta : plan.is_meta path ≡ false

-- the made file of a job on whose node that of this one depends
pub record IsMadeBefore (plan : Plan) (all : List CleanJob) (one : CleanJob) (path : List ℕ)
    : Type 0
  where
    pub maker : CleanJob
    pub among : IsAmong maker all
    pub made : (plan.node maker.node).made ≡ true
    pub name : (plan.node maker.node).name ≡ path
    pub depends : DependsOn plan one.node maker.node

-- the made file of a job's own node
pub record IsOwn (plan : Plan) (one : CleanJob) (path : List ℕ) : Type 0 where
  pub made : (plan.node one.node).made ≡ true
  pub name : (plan.node one.node).name ≡ path

-- a path that is no node's, and that no other job changes
pub record IsPrivate (plan : Plan) (all : List CleanJob) (one : CleanJob) (path : List ℕ) : Type 0
  where
    pub no_node : plan.is_node path ≡ false
    pub alone : (other : CleanJob) → IsAmong other all → other.node ≢ one.node → LeavesIt other path

-- a job leaves a file at the path of its node
pub record LeavesFile (plan : Plan) (one : CleanJob) : Type 0 where
  pub bytes : List ℕ
  pub is : over_deeds nothing_over (deeds_of one) (plan.node one.node).name ≡ Some (Some bytes)

-- What jobs read and change is declared: a job looks outside itself only at sources and at made
-- files on which its node depends; it changes its own made file, and else only what is its own;
-- where it goes well it leaves its made file; and it changes no meta file.
pub record IsDeclared (plan : Plan) (all : List CleanJob) : Type 0 where
  pub reads : (one : CleanJob) → IsAmong one all → (path : List ℕ)
      → IsAmong path (outer nothing_over (deeds_of one))
      → IsSource plan all path ⊎ IsMadeBefore plan all one path
  pub changes : (one : CleanJob) → IsAmong one all → (path : List ℕ) → Changes one path
      → IsOwn plan one path ⊎ IsPrivate plan all one path
  pub leaves : (one : CleanJob) → IsAmong one all → IsWell plan one
      → (plan.node one.node).made ≡ true → LeavesFile plan one
  pub no_meta : (one : CleanJob) → IsAmong one all → (path : List ℕ) → plan.is_meta path ≡ true
      → LeavesIt one path

-- The path of a node is a node's, and that of one which makes a file a made file's. No two nodes
-- have one path, each has one job, and it stands behind those of the nodes on which it depends.
pub record AreWellMade (plan : Plan) (all : List CleanJob) : Type 0 where
  pub is_node : (one : CleanJob) → IsAmong one all → plan.is_node (plan.node one.node).name ≡ true
  pub is_made : (one : CleanJob) → IsAmong one all → (plan.node one.node).made ≡ true
      → plan.is_made (plan.node one.node).name ≡ true
  pub names : (one other : CleanJob) → IsAmong one all → IsAmong other all
      → (plan.node one.node).name ≡ (plan.node other.node).name → one.node ≡ other.node
  pub once : (one other : CleanJob) → StandsBefore one other all → one.node ≢ other.node
  pub ordered : (one other : CleanJob) → IsAmong one all → IsAmong other all
      → DependsOn plan one.node other.node → StandsBefore other one all
