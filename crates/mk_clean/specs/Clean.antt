-- The clean build: what a build does that has nothing of earlier builds, one job after the other.
use Rattle.std.specs.Prelude.{◌≡◌, ◌⊎◌, ℕ, ◌||◌, List, [], ◌∷◌, map, None, Bool, true, false}
use Rattle.std.specs.Prelude.{if◌then◌else◌}
use Rattle.std.specs.List.{list_any}
use Rattle.std.specs.Str.{bytes_eq}
use Rattle.mk_clean.specs.Jobs.{goes_on, job}
use Rattle.mk_meta.specs.TrueHistory.{changed_paths, deeds_of_job}
use Rattle.mk_world.specs.Deeds.{Store, after_deeds}
use Rattle.mk_world.specs.Talks.{Doing, Meaning}
use Rattle.mk_world.specs.declared.command.Cmd.{Cmd}
use Rattle.mk_world.specs.declared.command.TaskLine.{TaskLine}
use Rattle.mk_world.specs.declared.step.Deed.{Deed}

-- a node: its path, its sources, the lines that it runs, and whether they make a file at its path
pub record Node : Type 0 where
  pub name : List ℕ
  pub sources : List ℕ
  pub lines : List TaskLine
  pub made : Bool

-- What is built: the command of a line, the nodes, those with commands in their order, and which
-- paths are those of nodes, made files and meta files.
pub record Plan : Type 0 where
  pub command : TaskLine → Cmd
  pub node : ℕ → Node
  pub order : List ℕ
  pub is_node : List ℕ → Bool
  pub is_made : List ℕ → Bool
  pub is_meta : List ℕ → Bool

abbrev pub IsAmong : {A : Type 0} → A → List A → Type 0
IsAmong one [] = ⊥
IsAmong one (first ∷ more) = (one ≡ first) ⊎ IsAmong one more

-- A node depends on its sources, and on what these depend on.
pub data DependsOn (plan : Plan) (node : ℕ) : ℕ → Type 0 where
  source : (other : ℕ) → IsAmong other (plan.node node).sources → DependsOn plan node other
  through : (between other : ℕ) → DependsOn plan node between
      → IsAmong other (plan.node between).sources → DependsOn plan node other

-- the files at the beginning, without what builds leave
abbrev pub cleared : Plan → Store → Store
cleared plan store = λ path. if plan.is_made path || plan.is_meta path then None else store path

-- a job of the clean build, with the files before it
pub record CleanJob : Type 0 where
  pub node : ℕ
  pub before : Store
  pub doings : List Doing

abbrev pub deeds_of : CleanJob → List Deed
deeds_of one = deeds_of_job one.doings

-- the lines of each node, by the files that stand at its turn
abbrev pub Lines : Type 0
Lines = ℕ → Store → List TaskLine

-- what the job of a node does on these files, and what it leaves
abbrev pub doings_by : Meaning → (TaskLine → Cmd) → Lines → ℕ → Store → List Doing
doings_by meaning command lines node store = job meaning command (lines node store) store

abbrev pub after_by : Meaning → (TaskLine → Cmd) → Lines → ℕ → Store → Store
after_by meaning command lines node store =
    after_deeds store (deeds_of_job (doings_by meaning command lines node store))

-- The jobs of these nodes, each on what those before it left, also behind one that failed.
abbrev pub jobs_by : Meaning → (TaskLine → Cmd) → Lines → List ℕ → Store → List CleanJob
jobs_by meaning command lines [] store = []
jobs_by meaning command lines (node ∷ nodes) store =
    record { node = node; before = store; doings = doings_by meaning command lines node store }
    ∷ jobs_by meaning command lines nodes (after_by meaning command lines node store)

-- the files behind them
abbrev pub files_by : Meaning → (TaskLine → Cmd) → Lines → List ℕ → Store → Store
files_by meaning command lines [] store = store
files_by meaning command lines (node ∷ nodes) store =
    files_by meaning command lines nodes (after_by meaning command lines node store)

-- the lines of a plan, whatever files stand
abbrev pub lines_in : Plan → Lines
lines_in plan node store = (plan.node node).lines

abbrev pub doings_on : Meaning → Plan → ℕ → Store → List Doing
doings_on meaning plan = doings_by meaning plan.command (lines_in plan)

abbrev pub after_job : Meaning → Plan → ℕ → Store → Store
after_job meaning plan = after_by meaning plan.command (lines_in plan)

abbrev pub clean_jobs : Meaning → Plan → List ℕ → Store → List CleanJob
clean_jobs meaning plan = jobs_by meaning plan.command (lines_in plan)

abbrev pub clean_end : Meaning → Plan → List ℕ → Store → Store
clean_end meaning plan = files_by meaning plan.command (lines_in plan)

-- The clean build of a plan on the files that stand there.
abbrev pub clean_build : Meaning → Plan → Store → List CleanJob
clean_build meaning plan store = clean_jobs meaning plan plan.order (cleared plan store)

abbrev pub clean_files : Meaning → Plan → Store → Store
clean_files meaning plan store = clean_end meaning plan plan.order (cleared plan store)

-- What stands at made files and meta files does not count in it: its jobs do the same, and leave
-- the same.
abbrev pub CleanBuildsForget : Type 0
CleanBuildsForget =
    (meaning : Meaning) (plan : Plan) (store other : Store)
    → ((path : List ℕ) → plan.is_made path ≡ false → plan.is_meta path ≡ false → store path ≡ other path)
    → (map (λ one. one.doings) (clean_build meaning plan store)
    ≡ map (λ one. one.doings) (clean_build meaning plan other))
    × ((path : List ℕ) → clean_files meaning plan store path ≡ clean_files meaning plan other path)

-- each line ran, and none failed
abbrev pub AllWell : List TaskLine → List Doing → Type 0
AllWell [] doings = Unit {0}
AllWell (line ∷ lines) [] = ⊥
AllWell (line ∷ lines) (doing ∷ doings) = (goes_on line doing ≡ true) × AllWell lines doings

-- a job of the clean build went well
abbrev pub IsWell : Plan → CleanJob → Type 0
IsWell plan one = AllWell (plan.node one.node).lines one.doings

-- whether steps change a path
abbrev pub is_changed : List Deed → List ℕ → Bool
is_changed deeds path = list_any (λ one. bytes_eq one path) (changed_paths deeds)

abbrev pub Changes : CleanJob → List ℕ → Type 0
Changes one path = is_changed (deeds_of one) path ≡ true

abbrev pub LeavesIt : CleanJob → List ℕ → Type 0
LeavesIt one path = is_changed (deeds_of one) path ≡ false

-- one job stands before another
abbrev pub StandsBefore : CleanJob → CleanJob → List CleanJob → Type 0
StandsBefore one other [] = ⊥
StandsBefore one other (first ∷ more) =
    ((one ≡ first) × IsAmong other more) ⊎ StandsBefore one other more
