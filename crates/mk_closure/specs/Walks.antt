-- The walk from wanted names over their sources.
use Rattle.std.specs.Prelude.{ℕ, zero, suc, ◌-◌, Bool, ◌||◌, List, [], ◌∷◌, ◌++◌, Ok, if◌then◌else◌}
use Rattle.mk_bytes.specs.Agrees.{◌>>=◌}
use Rattle.mk_closure.specs.Deciding.{Walk, decided}
use Rattle.mk_closure.specs.Means.{means_of}
use Rattle.mk_closure.specs.Members.{sources_in}
use Rattle.mk_closure.specs.Names.{name_in, numbered, is_frame}
use Rattle.mk_closure.specs.Parts.{State, part_at, first_state, is_open, with_met, met_count}
use Rattle.mk_graph.specs.Nodes.{Node}
use Rattle.mk_suffix.specs.Found.{Seeking}
use Rattle.mk_pool.specs.declared.pool.TheConstants.{MAX_NAMES}
use Rattle.mk_world.specs.Deeds.{Store}

-- A node is met, and decided where nothing was decided of it.
abbrev pub entered : Store → Seeking → State → ℕ → Walk
entered files seeking s n =
    if is_open s n
    then decided (with_met s n) n (means_of files s.nodes seeking (name_in s n) n)
    else Ok (with_met s n)

-- whether a walk passes over a node: it was met, or stands around the build
abbrev pub is_over : State → ℕ → Bool
is_over s n = (part_at s n).met || is_frame (name_in s n)

-- what goes on from a node that is met
abbrev pub Enter : Type 0
Enter = State → ℕ → Walk

-- Nodes are passed over up to one that is not: it is met, and its sources come before the others.
abbrev pub passed : Enter → (State → List ℕ → Walk) → State → List ℕ → Walk
passed enter next s [] = Ok s
passed enter next s (n ∷ more) =
    if is_over s n then passed enter next s more
    else (enter s n >>= λ later. next later (sources_in later n ++ more))

-- a walk on which so many more nodes may be met
unfoldable pub walked : ℕ → Enter → State → List ℕ → Walk
walked zero enter s nodes = passed enter (λ later more. Ok later) s nodes
walked (suc room) enter s nodes = passed enter (walked room enter) s nodes

-- A walk from these nodes, each before its sources, and these before the next one. There are never
-- more nodes than there may be names.
abbrev pub walk : Enter → State → List ℕ → Walk
walk enter s nodes = walked (MAX_NAMES - met_count s.parts) enter s nodes

-- a wanted name, and what it needs
abbrev pub wanted_met : Enter → State → List ℕ → Walk
wanted_met enter s name =
    if is_frame name then Ok s
    else (numbered s name >>= λ found. walk enter found.0 (found.1 ∷ []))

unfoldable pub all_met : Enter → State → List (List ℕ) → Walk
all_met enter s [] = Ok s
all_met enter s (name ∷ more) = wanted_met enter s name >>= λ later. all_met enter later more

-- The closure of wanted names in a graph on these files, or the first refusal.
abbrev pub closed : Store → List Node → Seeking → List (List ℕ) → Walk
closed files nodes seeking wanted = all_met (entered files seeking) (first_state nodes) wanted
