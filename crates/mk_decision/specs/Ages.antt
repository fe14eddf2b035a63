-- How old the sources of a node are, by what was seen of files.
use Rattle.std.specs.Prelude.{◌≡◌, ◌⊎◌, ℕ, zero, suc, ◌<◌, ◌==◌, nat_lt, Bool, true, false, not}
use Rattle.std.specs.Prelude.{◌&&◌, ◌||◌, List, [], ◌∷◌, ◌++◌, map, if◌then◌else◌}
use Rattle.std.specs.List.{list_any}
use Rattle.mk_plan.specs.Lists.{is_nil}
use Rattle.mk_plan.specs.Plans.{node_at}
use Rattle.mk_plan.specs.declared.plan.PlanNode.{PlanNode}
use Rattle.mk_world.specs.Looks.{is_missing}
use Rattle.mk_world.specs.declared.time.When.{When}
use Rattle.mk_world.specs.declared.time.When.TheVariants.{Missing, At, Unknown}
use Rattle.mk_oodate.specs.declared.reason.Age.{Age}
use Rattle.mk_oodate.specs.declared.reason.Age.TheVariants as aged
use Rattle.mk_decision.specs.declared.sight.Sighting.{Sighting}

-- the newer of two ages
abbrev pub newer : Age → Age → Age
newer aged.New other = aged.New
newer aged.Old other = other
newer (aged.At one) aged.New = aged.New
newer (aged.At one) aged.Old = aged.At one
newer (aged.At one) (aged.At other) = if nat_lt one.0 other.0 then aged.At other else aged.At one

-- the newest of an age and those of these nodes
abbrev pub newest : (ℕ → Age) → Age → List ℕ → Age
newest ages one [] = one
newest ages one (place ∷ places) = newest ages (newer one (ages place)) places

-- A node whose file is missing is old where it is marked `.EXEC`. Else it is new where it has
-- commands or is made from nothing, and as old as the newest of its sources where not.
abbrev pub age_of_missing : PlanNode → (ℕ → Age) → Age
age_of_missing node ages =
    if node.marks.exec then aged.Old
    else (if not (is_nil node.commands) || is_nil node.sources then aged.New
    else newest ages aged.Old node.sources)

abbrev pub age_by : When → PlanNode → (ℕ → Age) → Age
age_by Unknown node ages = aged.New
age_by (At time) node ages = aged.At time
age_by Missing node ages = age_of_missing node ages

-- The age of a node, by the time of its file and by the ages of others: a phony node is new, and so
-- is one whose time is not known. A file has its time.
abbrev pub age_of : PlanNode → When → (ℕ → Age) → Age
age_of node when ages = if node.marks.phony then aged.New else age_by when node ages

-- The age of the node at a place, by what was seen of it and of the nodes before it. Where each
-- node stands behind its sources, it is the one by the ages of its own sources. Other nodes are not
-- asked for.
abbrev pub age : List PlanNode → List Sighting → ℕ → Age
age nodes [] place = aged.Old
age nodes (one ∷ seen) place =
    if one.place == place then age_of (node_at nodes place) one.when (age nodes seen)
    else age nodes seen place

-- the ages of the sources of a node
abbrev pub source_ages : List PlanNode → ℕ → List Sighting → List Age
source_ages nodes node seen = map (age nodes seen) (node_at nodes node).sources

abbrev pub is_one_of : List ℕ → ℕ → Bool
is_one_of places place = list_any (λ one. one == place) places

-- whether the age of a node is that of its sources
abbrev pub is_by_sources : PlanNode → When → Bool
is_by_sources node when =
    not node.marks.phony && not node.marks.exec && is_missing when && is_nil node.commands

-- the nodes whose ages count beside that of a node
abbrev pub counted : PlanNode → When → List ℕ
counted node when = if is_by_sources node when then node.sources else []

-- What was seen goes back through a plan: of the nodes before a place, each that counts was looked
-- at, the later ones first, and no other. Where the age of one is that of its sources, these count
-- too.
abbrev pub AreSeen : List PlanNode → ℕ → List ℕ → List Sighting → Type 0
AreSeen nodes zero wanted seen = seen ≡ []
AreSeen nodes (suc place) wanted seen =
    ((is_one_of wanted place ≡ false) × AreSeen nodes place wanted seen)
    ⊎ ((is_one_of wanted place ≡ true) × (when : When) × (more : List Sighting)
    × (seen ≡ record { place = place; when = when } ∷ more)
    × AreSeen nodes place (counted (node_at nodes place) when ++ wanted) more)

-- what was seen is of nodes before a place
abbrev pub AreBefore : ℕ → List Sighting → Type 0
AreBefore place [] = Unit {0}
AreBefore place (one ∷ seen) = (one.place < place) × AreBefore place seen

-- A phony node is no file: its file counts as missing, and is not looked at.
abbrev pub HasNoFile : PlanNode → When → Type 0
HasNoFile node when = node.marks.phony ≡ true → when ≡ Missing

-- the sources of a node that is to be decided count, unless its own file is missing
abbrev pub decisive : PlanNode → When → List ℕ
decisive node target = if is_missing target then [] else node.sources

-- What was seen to decide a node: its own file, and the nodes that count for it.
abbrev pub IsWalk : List PlanNode → ℕ → When → List Sighting → Type 0
IsWalk nodes node target seen =
    HasNoFile (node_at nodes node) target
    × AreSeen nodes node (decisive (node_at nodes node) target) seen
