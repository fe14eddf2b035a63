-- A test of what jobs read and change, by lists of paths alone.
use Rattle.std.specs.Prelude.{◌≡◌, ℕ, zero, suc, ◌==◌, ◌&&◌, ◌||◌, Bool, true, false, not, List, []}
use Rattle.std.specs.Prelude.{◌∷◌, Option, Some, None}
use Rattle.std.specs.List.{list_all, list_any}
use Rattle.std.specs.Str.{bytes_eq}
use Rattle.mk_clean.specs.Clean.{CleanJob, Plan, deeds_of, is_changed}
use Rattle.mk_clean.specs.Declared.{IsDeclared}
use Rattle.mk_clean.specs.Jobs.{goes_on}
use Rattle.mk_meta.specs.TrueHistory.{changed_paths}
use Rattle.mk_world.specs.Outer.{nothing_over, outer, over_deeds}
use Rattle.mk_world.specs.Talks.{Doing}
use Rattle.mk_world.specs.declared.command.TaskLine.{TaskLine}

-- no job changes the path, and no build leaves it
abbrev pub is_source : Plan → List CleanJob → List ℕ → Bool
is_source plan all path =
    not (list_any (λ one. is_changed (deeds_of one) path) all)
    && (not (plan.is_made path) && not (plan.is_meta path))

-- A node depends on another one, over at most so many nodes.
abbrev pub depends : Plan → ℕ → ℕ → ℕ → Bool
depends plan zero node other = false
depends plan (suc most) node other =
    list_any (λ source. (other == source) || depends plan most source other) (plan.node node).sources

-- the path is the made file of a job on whose node that of this one depends
abbrev pub is_made_before : Plan → ℕ → List CleanJob → CleanJob → List ℕ → Bool
is_made_before plan most all one path =
    list_any (λ maker. (plan.node maker.node).made
    && (bytes_eq (plan.node maker.node).name path && depends plan most one.node maker.node)) all

-- the path is the made file of the job's own node
abbrev pub is_own : Plan → CleanJob → List ℕ → Bool
is_own plan one path = (plan.node one.node).made && bytes_eq (plan.node one.node).name path

-- the path is no node's, and no other job changes it
abbrev pub is_private : Plan → List CleanJob → CleanJob → List ℕ → Bool
is_private plan all one path =
    not (plan.is_node path)
    && list_all (λ other. (other.node == one.node) || not (is_changed (deeds_of other) path)) all

-- each line ran, and none failed
abbrev pub all_well : List TaskLine → List Doing → Bool
all_well [] doings = true
all_well (line ∷ lines) [] = false
all_well (line ∷ lines) (doing ∷ doings) = goes_on line doing && all_well lines doings

-- steps leave a file
abbrev pub is_left : Option (Option (List ℕ)) → Bool
is_left None = false
is_left (Some None) = false
is_left (Some (Some bytes)) = true

-- where a job has gone well, it leaves the made file of its node
abbrev pub leaves_its_file : Plan → CleanJob → Bool
leaves_its_file plan one =
    not (plan.node one.node).made || (is_left (over_deeds nothing_over (deeds_of one) (plan.node one.node).name)
    || not (all_well (plan.node one.node).lines one.doings))

-- What a job takes from outside itself are sources, and made files on which its node depends; what
-- it changes is its own, and no meta file; and it leaves its file.
abbrev pub is_declared_job : Plan → ℕ → List CleanJob → CleanJob → Bool
is_declared_job plan most all one =
    list_all (λ path. is_source plan all path || is_made_before plan most all one path)
    (outer nothing_over (deeds_of one))
    && (list_all (λ path. not (plan.is_meta path) && (is_own plan one path || is_private plan all one path))
    (changed_paths (deeds_of one))
    && leaves_its_file plan one)

-- What all jobs read and change is declared, as far as a node depends on another one over so many
-- nodes.
abbrev pub is_declared : Plan → ℕ → List CleanJob → Bool
is_declared plan most all = list_all (is_declared_job plan most all) all

-- Where the test passes, all is declared.
abbrev pub TestedJobsAreDeclared : Type 0
TestedJobsAreDeclared =
    (plan : Plan) (most : ℕ) (all : List CleanJob) → is_declared plan most all ≡ true
    → IsDeclared plan all
