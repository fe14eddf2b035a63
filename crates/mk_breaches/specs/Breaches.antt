-- What is breached by what is found of a plan and its nodes, and by the records of their jobs.
use Rattle.std.specs.Prelude.{ℕ, ◌+◌, ◌==◌, ◌&&◌, ◌||◌, Bool, false, not, List, [], ◌∷◌, ◌++◌}
use Rattle.std.specs.Prelude.{length, map, filter, slice_get}
use Rattle.std.specs.Prelude.{Option, Some, None, is_none, if◌then◌else◌}
use Rattle.std.specs.List.{list_any}
use Rattle.std.specs.Option.{option_map_or}
use Rattle.std.specs.Str.{bytes_eq}
use Rattle.mk_bytes.specs.Texts.{is_among}
use Rattle.mk_declared.specs.Recorded.{is_altered}
use Rattle.mk_filemon.specs.Outer.{left_written, once, ops_of, outer_reads}
use Rattle.mk_oodate.specs.declared.reason.Why.{Why}
use Rattle.mk_world.specs.declared.step.Op.{Op}
use Rattle.mk_breaches.specs.Paths.{changed_paths, is_meta_path, is_named, meta_paths}
use Rattle.mk_breaches.specs.Reaches.{depends}
use Rattle.mk_breaches.specs.declared.breach.Breach.{Breach}
use Rattle.mk_breaches.specs.declared.breach.Breach.TheVariants.{Mode, Asks, Differs, Unmeta}
use Rattle.mk_breaches.specs.declared.breach.Breach.TheVariants.{Task, Oodate, Exists, Unrecorded}
use Rattle.mk_breaches.specs.declared.breach.Breach.TheVariants.{Stale, ReadsMade, ReadsChanged}
use Rattle.mk_breaches.specs.declared.breach.Breach.TheVariants.{Changes, Unwritten, Meta}
use Rattle.mk_breaches.specs.declared.node.NodeFacts.{NodeFacts}
use Rattle.mk_breaches.specs.declared.node.PlanFacts.{PlanFacts}

-- a breach, where there is one
abbrev pub told_where : Bool → Breach → List Breach
told_where is breach = if is then breach ∷ [] else []

-- why a node is stale, where it is
abbrev pub stale_breaches : ℕ → Option Why → List Breach
stale_breaches n None = []
stale_breaches n (Some why) = Stale n why ∷ []

-- what is recorded of a node's job
abbrev pub ops : NodeFacts → List Op
ops node = ops_of node.records

-- a path is that of the file that a node makes
abbrev pub is_own : NodeFacts → List ℕ → Bool
is_own node path = node.made && bytes_eq node.name path

-- The node that makes a file at a path: the first such, of nodes of which the first has this
-- number.
abbrev pub maker_from : ℕ → List NodeFacts → List ℕ → Option ℕ
maker_from n [] path = None
maker_from n (node ∷ nodes) path = if is_own node path then Some n else maker_from (n + 1) nodes path

abbrev pub maker_of : List NodeFacts → List ℕ → Option ℕ
maker_of nodes path = maker_from 0 nodes path

-- a node's sources; none where there is no such node
abbrev pub sources_at : List NodeFacts → ℕ → List ℕ
sources_at nodes n = option_map_or (λ node. node.sources) (slice_get nodes n) []

-- a node's name; none where there is no such node
abbrev pub name_at : List NodeFacts → ℕ → List ℕ
name_at nodes n = option_map_or (λ node. node.name) (slice_get nodes n) []

-- a path is a node's
abbrev pub is_node : List NodeFacts → List ℕ → Bool
is_node nodes path = list_any (λ node. bytes_eq node.name path) nodes

-- by the records of some job a path was changed
abbrev pub is_changed : List NodeFacts → List ℕ → Bool
is_changed nodes path = list_any (λ node. is_altered (ops node) path) nodes

-- the records of another node's job read or change a path; the first of these nodes has this number
abbrev pub others_name : ℕ → ℕ → List NodeFacts → List ℕ → Bool
others_name first n [] path = false
others_name first n (node ∷ nodes) path =
    (not (first == n) && is_named (ops node) path) || others_name (first + 1) n nodes path

-- a node does not depend on the maker of a path, where it has one
abbrev pub is_apart : List NodeFacts → ℕ → Option ℕ → Bool
is_apart nodes n None = false
is_apart nodes n (Some maker) = not (depends (sources_at nodes) (length nodes) n maker)

-- the outer reads of a node's job that are made files on which the node does not depend
abbrev pub reads_made : List NodeFacts → ℕ → NodeFacts → List (List ℕ)
reads_made nodes n node = filter (λ path. is_apart nodes n (maker_of nodes path)) (outer_reads (ops node))

-- those that are no made files, and that some job changed
abbrev pub reads_changed : List NodeFacts → NodeFacts → List (List ℕ)
reads_changed nodes node =
    filter (λ path. is_none (maker_of nodes path) && is_changed nodes path) (outer_reads (ops node))

-- a path is a node's, or another job read or changed it
abbrev pub is_shared : List NodeFacts → ℕ → List ℕ → Bool
is_shared nodes n path = is_node nodes path || others_name 0 n nodes path

-- the paths that a node's job changed, other than its own made file, and that are no business of
-- its own
abbrev pub changes : List NodeFacts → ℕ → NodeFacts → List (List ℕ)
changes nodes n node =
    filter (λ path. not (is_own node path) && is_shared nodes n path) (changed_paths (ops node))

-- the made file of a node is not left written
abbrev pub is_unwritten : NodeFacts → Bool
is_unwritten node = node.made && not (is_among (left_written (ops node)) node.name)

-- what a node's records breach, by kinds, each kind in the order of first record
abbrev pub record_breaches : List NodeFacts → ℕ → NodeFacts → List Breach
record_breaches nodes n node =
    map (ReadsMade n) (reads_made nodes n node)
    ++ (map (ReadsChanged n) (reads_changed nodes node)
    ++ (map (Changes n) (changes nodes n node)
    ++ (told_where (is_unwritten node) (Unwritten n)
    ++ map (Meta n) (meta_paths (ops node) node.name))))

-- a path is that of a file that some node makes
abbrev pub is_made : List NodeFacts → List ℕ → Bool
is_made nodes path = list_any (λ node. is_own node path) nodes

-- a path is no source's: it is that of a made file, or a meta path
abbrev pub is_hidden : List NodeFacts → List ℕ → Bool
is_hidden nodes path = is_made nodes path || is_meta_path path

-- the paths of which a node's commands ask whether they are there, and that are hidden or that some
-- job changed; each once, in the order of asking
abbrev pub exists : List NodeFacts → NodeFacts → List (List ℕ)
exists nodes node = filter (λ path. is_hidden nodes path || is_changed nodes path) (once node.asked)

-- what tells that a node's records are not those of what it would do: that it has none, or why they
-- are stale
abbrev pub state_breaches : ℕ → NodeFacts → List Breach
state_breaches n node = if node.unrecorded then Unrecorded n ∷ [] else stale_breaches n node.stale

-- what a node's task breaches, and then the state of its records; nothing where the task is a fault
-- but that it is one
abbrev pub task_breaches : List NodeFacts → ℕ → NodeFacts → List Breach
task_breaches nodes n node =
    if node.task then Task n ∷ []
    else (told_where node.oodate (Oodate n)
    ++ (map (Exists n) (exists nodes node) ++ state_breaches n node))

-- a node's records are those of what it would do: it has commands, its task is no fault, and they
-- are there and not stale
abbrev pub is_judged : NodeFacts → Bool
is_judged node = node.job && (not node.task && (not node.unrecorded && is_none node.stale))

-- of a node without commands nothing is told, and of the records only where they are those of what
-- it would do
abbrev pub breaches_of : List NodeFacts → ℕ → NodeFacts → List Breach
breaches_of nodes n node =
    (if node.job then told_where node.unmeta (Unmeta n) ++ task_breaches nodes n node else [])
    ++ (if is_judged node then record_breaches nodes n node else [])

abbrev pub breaches_from : List NodeFacts → ℕ → List NodeFacts → List Breach
breaches_from all n [] = []
breaches_from all n (node ∷ nodes) = breaches_of all n node ++ breaches_from all (n + 1) nodes

-- what is breached by the plan as a whole
abbrev pub plan_breaches : PlanFacts → List Breach
plan_breaches plan =
    told_where plan.mode Mode
    ++ (told_where plan.asks Asks ++ told_where (not plan.asks && plan.differs) Differs)

-- What is breached: first by the plan as a whole, then by node in the order of the plan.
abbrev pub breaches : PlanFacts → List NodeFacts → List Breach
breaches plan nodes = plan_breaches plan ++ breaches_from nodes 0 nodes
