-- How far a walk over a graph has come: how each node is made, and which were met.
use Rattle.std.specs.Prelude.{◌≡◌, ℕ, ◌+◌, ◌<◌, ◌≤◌, Bool, true, false, List, [], ◌∷◌, ◌++◌}
use Rattle.std.specs.Prelude.{length, get_or, set, replicate, if◌then◌else◌}
use Rattle.mk_closure.specs.declared.part.Part.{Part}
use Rattle.mk_closure.specs.declared.part.Way.{Way}
use Rattle.mk_closure.specs.declared.part.Way.TheVariants.{Open, Own, Rule, Placed, Default}
use Rattle.mk_closure.specs.declared.part.Way.TheVariants.{Dropped}
use Rattle.mk_graph.specs.Nodes.{Node}
use Rattle.mk_pool.specs.declared.pool.TheConstants.{MAX_NAMES}

-- the nodes of the graph, the names that were added behind them, and a part for each of both
pub record State : Type 0 where
  pub nodes : List Node
  pub added : List (List ℕ)
  pub parts : List Part

abbrev pub open_part : Part
open_part = record { way = Open; met = false }

-- before the first name
abbrev pub first_state : List Node → State
first_state nodes =
    record { nodes = nodes; added = []; parts = replicate (length nodes) open_part }

abbrev pub part_at : State → ℕ → Part
part_at s n = get_or s.parts n open_part

abbrev pub is_open_way : Way → Bool
is_open_way Open = true
is_open_way Own = false
is_open_way (Rule rule source) = false
is_open_way (Placed place) = false
is_open_way Default = false
is_open_way Dropped = false

-- whether a node is not made itself: it is dropped, or another one stands for it
abbrev pub is_left_out_way : Way → Bool
is_left_out_way Open = false
is_left_out_way Own = false
is_left_out_way (Rule rule source) = false
is_left_out_way (Placed place) = true
is_left_out_way Default = false
is_left_out_way Dropped = true

-- whether nothing was decided of a node
abbrev pub is_open : State → ℕ → Bool
is_open s n = is_open_way (part_at s n).way

abbrev pub with_part : State → ℕ → Part → State
with_part s n part =
    record { nodes = s.nodes; added = s.added; parts = set s.parts n part }

-- a node's way is decided
abbrev pub with_way : State → ℕ → Way → State
with_way s n way = with_part s n (record { way = way; met = (part_at s n).met })

-- a node is met
abbrev pub with_met : State → ℕ → State
with_met s n = with_part s n (record { way = (part_at s n).way; met = true })

-- one name more
abbrev pub with_name : State → List ℕ → State
with_name s name = record {
  nodes = s.nodes;
  added = s.added ++ name ∷ [];
  parts = s.parts ++ open_part ∷ [];
}

-- how many nodes were met
abbrev pub met_count : List Part → ℕ
met_count [] = 0
met_count (part ∷ parts) = (if part.met then 1 else 0) + met_count parts

-- a rule is a node, and its source a name, as the place of a name is
abbrev pub IsMade : ℕ → ℕ → Way → Type 0
IsMade rules names Open = Unit {0}
IsMade rules names Own = Unit {0}
IsMade rules names (Rule rule source) = (rule < rules) × (source < names)
IsMade rules names (Placed place) = place < names
IsMade rules names Default = Unit {0}
IsMade rules names Dropped = Unit {0}

abbrev pub AreMade : ℕ → ℕ → List Part → Type 0
AreMade rules names [] = Unit {0}
AreMade rules names (part ∷ parts) = IsMade rules names part.way × AreMade rules names parts

-- a part for each name, and not too many
pub record IsHeld (s : State) : Type 0 where
  pub as_many : length s.parts ≡ length s.nodes + length s.added
  pub limit : length s.parts ≤ MAX_NAMES
  pub made : AreMade (length s.nodes) (length s.parts) s.parts

-- the same nodes are met, and perhaps there are more names
pub record IsGrown (old new : State) : Type 0 where
  pub nodes : new.nodes ≡ old.nodes
  pub longer : length old.parts ≤ length new.parts
  pub count : met_count new.parts ≡ met_count old.parts
